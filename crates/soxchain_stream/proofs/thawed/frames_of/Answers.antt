use Rattle.std.proofs.Common.{◌≡◌, ℕ, ◌++◌, ◌∙◌, ◌∷◌, ◌^◌, List, ap, arith, lit<, length, sym, map, [], append_assoc, take, true, false, suc}
use Rattle.std.proofs.lemmas.List.{append-nil, nil_from_length}
use Rattle.std.specs.Int.{cast_signed, w64}
use Rattle.fx_frame_base.specs.Frame.{IsWideFrame, Samples}
use Rattle.soxchain_stream.specs.Frozen.{frame_words}
use Rattle.soxchain_stream.proofs.Words.{AreBelow, all-push, below-drop, below-take, FirstFrame, first-frame, frame-words-back, no-frames, pieces-more}
use Rattle.soxchain_stream.proofs.thawed.frames_of.Goals as goal

pub loop-count-preserved : goal.loop-count-preserved
loop-count-preserved c =
    let rest : List ℕ = c.loop-count.rest.now in
    let count : ℕ = c.in-Some.count.now in
    let more : List ℕ = c.in-Some.more.now in
    let samples : List ℕ = c.split_at.result.0.now in
    let after : List ℕ = c.split_at.result.1.now in
    let frame : Samples = c.in-Some-frame_of.frame in
    let split : rest ≡ count ∷ more = c.in-Some.ensures.cases.0 in
    let joined : samples ++ after ≡ more = sym c.split_at.ensures.by_index.0 in
    let all : AreBelow (2 ^ 64) (count ∷ more) = rw split at c.loop-count.invariant.below in
    let left : AreBelow (2 ^ 64) more = λ i. all (suc i) in
    let words : frame_words frame ≡ count ∷ samples =
    ap frame_words c.in-Some-frame_of.ensures.value ∙ frame-words-back samples count c.split_at.ensures.front_len (rw c.split_at.ensures.front (below-take (2 ^ 64) count more (lit< tt) left)) in
    record {
      frames = rw c.in_ok-push.ensures.items (pieces-more frame_words c.loop-count.frames.items frame after rest c.args.words.now (ap (λ (l : List ℕ). l ++ after) words ∙ ap (λ (l : List ℕ). count ∷ l) joined ∙ sym split) c.loop-count.invariant.frames);
      below = rw c.split_at.ensures.back (below-drop (2 ^ 64) count more left);
      wide = rw c.in_ok-push.ensures.items (all-push IsWideFrame c.loop-count.frames.items frame c.loop-count.invariant.wide c.in-Some-frame_of.ensures.wide);
      left = λ frames wide e.
          let found = c.loop-count.invariant.left frames wide e in
          let first : FirstFrame found.0 count more = first-frame found.0 count more found.1 (found.2 ∙ split) in
          let is : frame ≡ map (cast_signed w64) (take count more) = c.in-Some-frame_of.ensures.value ∙ ap (map (cast_signed w64)) c.split_at.ensures.front in (
            first.left,
            first.wide,
            first.after ∙ sym c.split_at.ensures.back,
            found.3 ∙ ap (λ (l : List Samples). c.loop-count.frames.items ++ l) (first.all ∙ ap (λ (g : Samples). g ∷ first.left) (sym is))
                ∙ sym (append_assoc c.loop-count.frames.items (frame ∷ []) first.left) ∙ ap (λ (l : List Samples). l ++ first.left) (sym c.in_ok-push.ensures.items),
          );
    }

pub returns-then-count-more-clause-back : goal.returns-then-count-more-clause-back
returns-then-count-more-clause-back c = λ frames wide e.
    let count : ℕ = c.in-Some.count.now in
    let more : List ℕ = c.in-Some.more.now in
    let found = c.loop-count.invariant.left frames wide e in
    let first : FirstFrame found.0 count more = first-frame found.0 count more found.1 (found.2 ∙ c.in-Some.ensures.cases.0) in
    absurd (omega (arith, first.whole))

pub returns-in_default-frame_of-clause-back : goal.returns-in_default-frame_of-clause-back
returns-in_default-frame_of-clause-back c = λ frames wide e.
    let count : ℕ = c.in-Some.count.now in
    let more : List ℕ = c.in-Some.more.now in
    let found = c.loop-count.invariant.left frames wide e in
    let first : FirstFrame found.0 count more = first-frame found.0 count more found.1 (found.2 ∙ c.in-Some.ensures.cases.0) in
    let size : length c.split_at.result.0.now ≡ count = c.split_at.ensures.front_len in
    let none : false ≡ true = c.in_default-frame_of.ensures.some.1 (omega (arith, size, first.some), omega (arith, size, first.bound)) in
    cc

pub returns-clause-back : goal.returns-clause-back
returns-clause-back c = λ frames wide e.
    let rest : List ℕ = c.loop-count.rest.now in
    let items : List Samples = c.loop-count.frames.items in
    let found = c.loop-count.invariant.left frames wide e in
    let none : found.0 ≡ [] = no-frames found.0 (found.2 ∙ nil_from_length rest c.in_default.ensures.cases) in
    sym (found.3 ∙ ap (λ (l : List Samples). items ++ l) none ∙ append-nil items)
