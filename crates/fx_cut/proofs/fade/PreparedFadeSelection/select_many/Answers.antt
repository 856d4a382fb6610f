use Rattle.std.proofs.Common.{◌≡◌, ◌≤◌, ◌∷◌, ◌++◌, ◌+◌, ◌-◌, ◌*◌, [], ap, sym, ◌∙◌, arith, drop, length, length-drop, map, suc, take, List, ℕ, add-one, w32, FitsSigned, ℤ}
use Rattle.std.proofs.lemmas.List.Elements.{All-append, All-drop, All-take}
use Rattle.std.proofs.Math.Nat.{suc-mul, mul-le-mul_right}
use Rattle.std.proofs.lemmas.List.{map-append}
use Rattle.fx_frame_base.specs.Frame.{Samples}
use Rattle.fx_frame_base.specs.Lists.{pieces}
use Rattle.fx_frame_base.proofs.Puts.{drop-put, pieces-more, pieces-put}
use Rattle.fx_frame_line.proofs.ManyFrames.{frames-samples}
use Rattle.fx_frame_base.proofs.Pieces.{length-pieces}
use Rattle.fx_cut.specs.Fade.{faded_frame}
use Rattle.fx_cut.specs.FadeState.{stop_determined}
use Rattle.fx_frame_base.specs.Given.{plain}
use Rattle.fx_cut.proofs.FadeWeights.{all-flat, faded_along, faded_along-more}
use Rattle.fx_cut.proofs.Pieces.{put-piece}
use Rattle.fx_cut.proofs.Weighing.{given-plain}
use Rattle.fx_cut.proofs.fade.PreparedFadeSelection.select_many.Goals as goal

pub returns-then-count-flat_from-clause-frames : goal.returns-then-count-flat_from-clause-frames
returns-then-count-flat_from-clause-frames c =
    let xs : List Samples = pieces c.args.channels c.args.count c.args.samples.now in
    let many : length xs ≡ c.args.count = length-pieces c.args.channels c.args.count c.args.samples.now in
    all-flat c.args.self.now.shape c.args.channels c.args.place xs (λ i h. c.flat_from.ensures.whole i (omega (arith, many, c.if-count-flat_from.true))) (frames-samples w32 c.args.channels c.args.count c.args.samples.now c.requires.frames c.requires.fit)

pub frames-preserved : goal.frames-preserved
frames-preserved c =
    let old = c.frames.invariant in
    let size : ℕ = c.args.channels in
    let turn : ℕ = c.frames.turn in
    let now : List ℤ = c.frames.samples in
    let xs : List Samples = pieces size turn c.args.samples.now in
    let x : Samples = take size (drop c.frames.at c.args.samples.now) in
    let made : Samples = c.weigh.new.samples in
    let width : c.frames.at + size - c.frames.at ≡ size = omega arith in
    let next : suc turn * size ≤ c.args.count * size = mul-le-mul_right size (omega arith) in
    let fits : c.frames.at + size ≤ length now = omega (arith, next, suc-mul turn size, old.at_is, c.requires.frames, c.frames.auto.samples) in
    let sides : length made ≡ size = omega (arith, c.weigh.auto.samples, length-drop c.frames.at now) in
    let put = put-piece c.frames.at size now made sides in
    let came : take size (drop c.frames.at now) ≡ x = ap (take size) old.rest in
    let more : pieces size (turn + 1) c.args.samples.now ≡ xs ++ x ∷ [] = pieces-more size turn c.frames.at c.args.samples.now old.at_is in
    let many : length xs ≡ turn = length-pieces size turn c.args.samples.now in
    let stop : c.next_stop-stop.result ≡ stop_determined c.args.self.now.shape (c.args.place + turn) = c.next_stop-stop.ensures in
    let weighed = rw (width, came, stop) at c.weigh.ensures.samples in
    let one : plain made ≡ faded_frame c.args.self.now.shape (stop_determined c.args.self.now.shape (c.args.place + turn)) (c.args.place + turn) x = sym (given-plain _ made weighed) in
    record {
      at_is = omega (arith, old.at_is, suc-mul turn size, add-one turn);
      done =
          ap (map plain) (pieces-put size turn c.frames.at now made _ old.at_is sides fits put) ∙ map-append plain (pieces size turn now) (made ∷ [])
          ∙ ap (λ gs. gs ++ plain made ∷ []) old.done ∙ ap (λ g. faded_along c.args.self.now.shape c.args.place xs ++ g ∷ []) one
          ∙ sym (ap (faded_along c.args.self.now.shape c.args.place) more ∙ rw many at (faded_along-more c.args.self.now.shape c.args.place xs x));
      fit = rw put (All-append (FitsSigned w32) (take c.frames.at now ++ made) (drop (c.frames.at + length made) now) (All-append (FitsSigned w32) (take c.frames.at now) made (All-take (FitsSigned w32) c.frames.at now old.fit) c.weigh.ensures.fit) (All-drop (FitsSigned w32) (c.frames.at + length made) now old.fit));
      rest = drop-put c.frames.at size c.args.samples.now now made _ sides fits put old.rest;
    }
