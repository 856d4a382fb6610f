-- What stays true while frames go through a flow to a writer.
use Rattle.std.proofs.Common.{◌≡◌, ℕ, ◌+◌, ◌*◌, ◌≤◌, map, Bool, true, false, List, [], ◌∷◌, ◌++◌, drop, take, refl, sym, ap, ◌∙◌, arith, Some, None, option_to_list, Option, nat_lt}
use Rattle.std.proofs.lemmas.List.{append_assoc, append-nil, length-append}
use borrow.Author.Tests.{ltb-true, ltb-false}
use Rattle.fx_frame_base.specs.declared.coding.Coding.{Coding}
use Rattle.fx_frame_base.specs.Frame.{Samples}
use Rattle.fx_sound.specs.FrameCoding.{coded_samples}
use Rattle.fx_frame_base.specs.Holds.{kinds, recipes}
use Rattle.fx_frame_base.specs.Stage.{Acts, StageKind}
use Rattle.fx_chain_flow.specs.Parts.{Parts, given_by, taken_of, through}
use Rattle.fx_chain_flow.specs.Composed.{enough_for}
use Rattle.fx_chain_flow.specs.Steps.{IsHungry, rest_of, wholes_of}
use Rattle.fx_sound.specs.Output.{Pending, Sent}
use Rattle.fx_sound.specs.Runs.{RanFrames}
use Rattle.fx_sound.proofs.RunLaws.{Ran-end, first_frames-more}
use Rattle.fx_sound.specs.Sound.{Reading, EndsSound, TakesFrame, size_of}
use Rattle.fx_chain_run.specs.FrameWriter.{WroteFront, coded}
use Rattle.fx_chain_run.specs.Run.{Flowed, FlowedFront, RanToEnd, WantsMore, sound_frames}
use Rattle.fx_chain_run.specs.Through.{RunCutOff, Drained, RunGives, Through, took, end_reported, untouched}
use Rattle.fx_chain_run.proofs.Sending.{coded-append, coded_clips-append}

-- what is not so is not otherwise
pub not-both : {X : Type 0} (b : Bool) → b ≡ false → b ≡ true → X
not-both b f t = absurd (cc)

-- one frame more was not enough
pub WantsMore-next : (ks : List StageKind) (n : ℕ) → WantsMore ks n → enough_for ks n ≡ false → WantsMore ks (n + 1)
WantsMore-next ks n w e m h = pick (nat_lt m n) refl
  where
    pick : (b : Bool) → nat_lt m n ≡ b → enough_for ks m ≡ false
    pick true t = w m (ltb-true _ _ t)
    pick false t =
        let beyond : n ≤ m = ltb-false _ _ t in
        let same : m ≡ n = omega arith in
        rw same e

-- the frames after those that were taken
pub sound_frames-more : (first now : Reading) (bytes : List ℕ) (n : ℕ) (to_come new_to_come : Option (List ℕ)) (frame : Samples)
    → RanFrames first now bytes n to_come → TakesFrame now (drop (n * size_of first) bytes) frame new_to_come → sound_frames first (n + 1) bytes ≡ sound_frames first n bytes ++ frame ∷ []
sound_frames-more first now bytes n to_come new_to_come frame r t =
    let e = t.samples ∙ ap (λ (p : Reading). coded_samples p.coding p.channels (take (size_of p) (drop (n * size_of first) bytes))) r.now_is in
    first_frames-more first.coding first.channels n bytes ∙ ap (λ (f : Samples). sound_frames first n bytes ++ f ∷ []) (sym e)

-- the end of the sound
pub RanToEnd-end : (first now new : Reading) (bytes : List ℕ) (n : ℕ) (to_come : Option (List ℕ))
    → RanFrames first now bytes n to_come → EndsSound now (drop (n * size_of first) bytes) new → RanToEnd first bytes n new.missing new.stray
RanToEnd-end first now new bytes n to_come r e =
    let q = Ran-end first now new bytes n to_come r e in
    record { count = q.0; strays = ap (λ (p : Reading). p.stray) q.1; lacks = ap (λ (p : Reading). p.missing) q.1 }

module _ {S R : Type 0} (acts : Acts S R) where
  -- the same stages have enough
  pub enough-same : (start at : Parts S) (n : ℕ) → recipes acts at.stages ≡ recipes acts start.stages → taken_of at ≡ n → enough_for (kinds acts at.stages) (taken_of at) ≡ enough_for (kinds acts start.stages) n
  enough-same start at n stay e = ap (λ (rs : List R). enough_for (map acts.kind_of rs) (taken_of at)) stay ∙ ap (enough_for (kinds acts start.stages)) e

  -- a frame in the inlet is the next to come
  rest-take : (f g : Parts S) (frame : Samples) (z : List Samples) → f.inlet ≡ None → g ≡ record f { inlet = Some frame } → rest_of acts g z ≡ rest_of acts f (frame ∷ z)
  rest-take f g frame z none e = ap (λ (h : Parts S). rest_of acts h z) e ∙ ap (λ (o : Option Samples). through acts f.stages (option_to_list o ++ frame ∷ z)) (sym none)

  whole-take : (f g : Parts S) (frame : Samples) (z : List Samples) → f.inlet ≡ None → g ≡ record f { inlet = Some frame } → wholes_of acts g z ≡ wholes_of acts f (frame ∷ z)
  whole-take f g frame z none e = rw (e, none) refl

  -- one frame more was taken
  pub taken-take : (f g : Parts S) (frame : Samples) → f.inlet ≡ None → g ≡ record f { inlet = Some frame } → taken_of g ≡ taken_of f + 1
  taken-take f g frame none e = rw (e, none) (omega arith)

  Through-start : (start : Parts S) → given_by acts start.left start.stages ≡ 0 → Through acts start start [] []
  Through-start start none = record { rest = λ z over. refl; whole = λ z over. refl; counted = none; reached = untouched }

  -- a frame was taken, and what the flow then gave
  Through-turn : (start at g new : Parts S) (frames given more : List Samples) (frame : Samples) → Through acts start at frames given → IsHungry acts at
      → g ≡ record at { inlet = Some frame } → RunGives acts g new more → Through acts start new (frames ++ frame ∷ []) (given ++ more)
  Through-turn start at g new frames given more frame p hungry e q =
      let none = hungry.empty in
      let running = hungry.not_ended in
      let unchanged : g.ended ≡ false = ap (λ (h : Parts S). h.ended) e ∙ running in
      record {
        rest = λ z over.
            ap (rest_of acts start) (append_assoc frames (frame ∷ []) z) ∙ p.rest (frame ∷ z) (λ t. not-both at.ended running t)
            ∙ ap (λ l. given ++ l) (sym (rest-take at g frame z none e) ∙ q.rest z (λ t. not-both g.ended unchanged t)) ∙ sym (append_assoc given more (rest_of acts new z));
        whole = λ z over.
            q.whole z (λ t. not-both g.ended unchanged t) ∙ whole-take at g frame z none e ∙ p.whole (frame ∷ z) (λ t. not-both at.ended running t)
            ∙ sym (ap (wholes_of acts start) (append_assoc frames (frame ∷ []) z));
        counted = let same : given_by acts g.left g.stages ≡ given_by acts at.left at.stages = ap (λ (h : Parts S). given_by acts h.left h.stages) e in omega (arith, q.counted, p.counted, same, length-append given more);
        reached = q.reached start (frames ++ frame ∷ []) given (took frames given frame at g p.reached hungry e);
      }

  -- the end was given, and what the flow then gave
  Through-end : (start at g new : Parts S) (frames given more : List Samples) → Through acts start at frames given → IsHungry acts at
      → g ≡ record at { ended = true } → RunGives acts g new more → Through acts start new frames (given ++ more)
  Through-end start at g new frames given more p hungry e q =
      let running = hungry.not_ended in
      let over : new.ended ≡ true = q.ended ∙ ap (λ (h : Parts S). h.ended) e in
      record {
        rest = λ z none.
            p.rest z (λ t. not-both at.ended running t)
            ∙ ap (λ l. given ++ l) (sym (ap (λ (h : Parts S). rest_of acts h z) e) ∙ q.rest z (λ t. none over)) ∙ sym (append_assoc given more (rest_of acts new z));
        whole = λ z none. q.whole z (λ t. none over) ∙ ap (λ (h : Parts S). wholes_of acts h z) e ∙ p.whole z (λ t. not-both at.ended running t);
        counted = let same : given_by acts g.left g.stages ≡ given_by acts at.left at.stages = ap (λ (h : Parts S). given_by acts h.left h.stages) e in omega (arith, q.counted, p.counted, same, length-append given more);
        reached = q.reached start frames given (end_reported frames given at g p.reached hungry e);
      }

  pub Flowed-start : (start : Parts S) (coding : Coding) (clips : ℕ) (first now : Option (List ℕ)) (out : Pending) (head : List ℕ) → given_by acts start.left start.stages ≡ 0 → clips ≡ 0 → Sent first now out head
      → Flowed acts start start coding [] clips first now out head
  Flowed-start start coding clips first now out head none unclipped s = record { given = []; through = Through-start start none; clipped = unclipped; sent = rw (append-nil head) s }

  pub FlowedFront-start : (start : Parts S) (coding : Coding) (clips : ℕ) (first now : Option (List ℕ)) (out : Pending) (head : List ℕ) → given_by acts start.left start.stages ≡ 0 → clips ≡ 0 → WroteFront first now out.written head
      → FlowedFront acts start start coding [] clips first now out head
  FlowedFront-start start coding clips first now out head none unclipped w = record { given = []; through = Through-start start none; clipped = unclipped; front = rw (append-nil head) w }

  module _ {start at g new : Parts S} {coding : Coding} {frames all : List Samples} {clips new_clips : ℕ} {first now new_now : Option (List ℕ)} {out new_out : Pending} {head : List ℕ}
      (p : Flowed acts start at coding frames clips first now out head) where
    -- what the flow gave after that was sent
    pub Flowed-more : (q : Drained acts g new coding clips new_clips now new_now out new_out) → Through acts start new all (p.given ++ q.given) → Flowed acts start new coding all new_clips first new_now new_out head
    Flowed-more q through = record {
      given = p.given ++ q.given;
      through = through;
      clipped = omega (arith, coded_clips-append coding p.given q.given, q.clipped, p.clipped);
      sent = rw (coded-append coding p.given q.given, ← append_assoc head (coded coding p.given) (coded coding q.given)) (q.sends first (head ++ coded coding p.given) p.sent);
    }

    -- the writer failed at it
    pub FlowedFront-more : (q : RunCutOff acts g new coding clips new_clips now new_now out new_out) → Through acts start new all (p.given ++ q.given) → FlowedFront acts start new coding all new_clips first new_now new_out head
    FlowedFront-more q through = record {
      given = p.given ++ q.given;
      through = through;
      clipped = omega (arith, coded_clips-append coding p.given q.given, q.clipped, p.clipped);
      front = rw (coded-append coding p.given q.given, ← append_assoc head (coded coding p.given) (coded coding q.given)) (q.front first (head ++ coded coding p.given) p.sent);
    }

  module _ (start at g new : Parts S) (coding : Coding) (frames : List Samples) (clips new_clips : ℕ) (first now new_now : Option (List ℕ)) (out new_out : Pending) (head : List ℕ)
      (p : Flowed acts start at coding frames clips first now out head) (hungry : IsHungry acts at) where
    -- a frame was taken
    pub Flowed-turn : (frame : Samples) → g ≡ record at { inlet = Some frame } → Drained acts g new coding clips new_clips now new_now out new_out → Flowed acts start new coding (frames ++ frame ∷ []) new_clips first new_now new_out head
    Flowed-turn frame e q = Flowed-more p q (Through-turn start at g new frames p.given q.given frame p.through hungry e q.gives)

    pub FlowedFront-turn : (frame : Samples) → g ≡ record at { inlet = Some frame } → RunCutOff acts g new coding clips new_clips now new_now out new_out → FlowedFront acts start new coding (frames ++ frame ∷ []) new_clips first new_now new_out head
    FlowedFront-turn frame e q = FlowedFront-more p q (Through-turn start at g new frames p.given q.given frame p.through hungry e q.gives)

    -- the end was given
    pub Flowed-end : g ≡ record at { ended = true } → Drained acts g new coding clips new_clips now new_now out new_out → Flowed acts start new coding frames new_clips first new_now new_out head
    Flowed-end e q = Flowed-more p q (Through-end start at g new frames p.given q.given p.through hungry e q.gives)

    pub FlowedFront-end : g ≡ record at { ended = true } → RunCutOff acts g new coding clips new_clips now new_now out new_out → FlowedFront acts start new coding frames new_clips first new_now new_out head
    FlowedFront-end e q = FlowedFront-more p q (Through-end start at g new frames p.given q.given p.through hungry e q.gives)

  -- where nothing that follows changes anything
  pub determined : (start at : Parts S) (frames given z : List Samples) → Through acts start at frames given → at.ended ≡ false → ((y : List Samples) → rest_of acts at y ≡ rest_of acts at [])
      → rest_of acts start (frames ++ z) ≡ rest_of acts start frames
  determined start at frames given z p running same =
      p.rest z (λ t. not-both at.ended running t) ∙ ap (λ l. given ++ l) (same z) ∙ sym (p.rest [] (λ t. refl)) ∙ ap (rest_of acts start) (append-nil frames)
