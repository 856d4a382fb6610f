-- What stays true while a flow is stepped and what it gives is sent.
use Rattle.std.proofs.Common.{◌≡◌, ℕ, ◌+◌, ◌≤◌, ◌^◌, map, List, [], ◌∷◌, ◌++◌, refl, sym, ap, ◌∙◌, arith, Option}
use Rattle.std.proofs.lemmas.List.{append_assoc, append-nil, length-append}
use Rattle.fx_frame_base.specs.declared.coding.Coding.{Coding}
use Rattle.fx_frame_base.specs.Frame.{Samples}
use Rattle.fx_sound.specs.FrameCoding.{bytes_of, clips_of}
use Rattle.fx_frame_base.specs.Stage.{Acts}
use Rattle.fx_frame_base.specs.Holds.{kinds, recipes}
use Rattle.fx_chain_flow.specs.Parts.{Parts, given_by, max_of, taken_of}
use Rattle.fx_chain_flow.specs.Sound.{max_frames}
use Rattle.fx_chain_flow.proofs.Laws.{max_of-le}
use Rattle.fx_chain_flow.specs.declared.flow.Step.{Step}
use Rattle.fx_chain_flow.specs.Steps.{MovedOn, Steps, given_out, rest_of}
use Rattle.fx_sound.specs.Output.{Pending, SendsMore, SendsPart}
use Rattle.fx_chain_run.specs.FrameWriter.{coded, coded_clips}
use Rattle.fx_chain_run.specs.Through.{RunCutOff, Drained, RunGives, stepped}
use Rattle.fx_chain_run.proofs.Sending.{WroteFront-part, coded-more, coded_clips-append}

module _ {S R : Type 0} (acts : Acts S R) where
  -- before the first step
  pub Gives-none : (f : Parts S) → RunGives acts f f []
  Gives-none f = record {
    rest = λ z over. refl;
    whole = λ z over. refl;
    recipes_stay = refl;
    taken = refl;
    ended = refl;
    channels = refl;
    counted = omega arith;
    reached = λ first xs gs r. rw (append-nil gs) r;
  }

  -- one step more
  pub Gives-step : (old at new : Parts S) (step : Step) (given : List Samples) → RunGives acts old at given → Steps acts at step new → MovedOn acts at step new → RunGives acts old new (given ++ given_out step)
  Gives-step old at new step given p s m = record {
    rest = λ z over. p.rest z over ∙ ap (λ l. given ++ l) (s.rest z (λ e. over (sym p.ended ∙ e))) ∙ sym (append_assoc given (given_out step) (rest_of acts new z));
    whole = λ z over. s.whole z (λ e. over (sym p.ended ∙ e)) ∙ p.whole z over;
    recipes_stay = s.recipes_stay ∙ p.recipes_stay;
    taken = s.taken ∙ p.taken;
    ended = s.ended ∙ p.ended;
    channels = s.channels ∙ p.channels;
    counted = omega (arith, s.given, p.counted, length-append given (given_out step));
    reached = λ first xs gs r. rw (append_assoc gs given (given_out step)) at (stepped xs (gs ++ given) step at new (p.reached first xs gs r) m);
  }

  pub Drained-none : (f : Parts S) (coding : Coding) (clips : ℕ) (now : Option (List ℕ)) (out : Pending) → Drained acts f f coding clips clips now now out out
  Drained-none f coding clips now out = record {
    given = [];
    gives = Gives-none f;
    clipped = omega arith;
    sends = λ first all s. rw (append-nil all) s;
  }

  -- a step that gave nothing
  pub Drained-unchanged : (old at new : Parts S) (step : Step) (coding : Coding) (clips at_clips : ℕ) (now at_now : Option (List ℕ)) (out at_out : Pending)
      → Drained acts old at coding clips at_clips now at_now out at_out → Steps acts at step new → MovedOn acts at step new → given_out step ≡ [] → Drained acts old new coding clips at_clips now at_now out at_out
  Drained-unchanged old at new step coding clips at_clips now at_now out at_out p s m none = record {
    given = p.given;
    gives = rw (none, append-nil p.given) at (Gives-step old at new step p.given p.gives s m);
    clipped = p.clipped;
    sends = p.sends;
  }

  module _ (old at new : Parts S) (step : Step) (frame : Samples) (coding : Coding) (clips at_clips new_clips : ℕ) (now at_now new_now : Option (List ℕ)) (out at_out new_out : Pending)
      (p : Drained acts old at coding clips at_clips now at_now out at_out) (s : Steps acts at step new) (on : MovedOn acts at step new) (gave : given_out step ≡ frame ∷ []) (c : new_clips ≡ at_clips + clips_of coding frame) where
    gives-more : RunGives acts old new (p.given ++ frame ∷ [])
    gives-more = rw gave at (Gives-step old at new step p.given p.gives s on)

    clips-more : new_clips ≡ clips + coded_clips coding (p.given ++ frame ∷ [])
    clips-more = omega (arith, coded_clips-append coding p.given (frame ∷ []), c, p.clipped)

    -- a step that gave a frame, which was sent
    pub Drained-more : SendsMore at_now new_now at_out new_out (bytes_of coding frame) → Drained acts old new coding clips new_clips now new_now out new_out
    Drained-more m = record { given = p.given ++ frame ∷ []; gives = gives-more; clipped = clips-more; sends = λ first all t. rw (← coded-more coding all p.given frame) (m first (all ++ coded coding p.given) (p.sends first all t)) }

    -- a step that gave a frame, at which the writer failed
    pub CutOff-more : SendsPart at_now new_now at_out new_out (bytes_of coding frame) → RunCutOff acts old new coding clips new_clips now new_now out new_out
    CutOff-more m = record {
      given = p.given ++ frame ∷ [];
      gives = gives-more;
      clipped = clips-more;
      front = λ first all t. rw (← coded-more coding all p.given frame)
          (WroteFront-part first new_now new_out (all ++ coded coding p.given) (bytes_of coding frame) m.count (m.sends first (all ++ coded coding p.given) (p.sends first all t)));
    }

  -- the frames that a flow gave are at most those of its plan
  pub given_by-bound : ((r : R) (m n : ℕ) → m ≤ n → (acts.kind_of r).maximum m ≤ (acts.kind_of r).maximum n) → (start at : Parts S) → recipes acts at.stages ≡ recipes acts start.stages
      → max_of (kinds acts start.stages) max_frames ≤ 2 ^ 56 → given_by acts at.left at.stages ≤ max_of (kinds acts at.stages) (taken_of at) → taken_of at ≤ max_frames → given_by acts at.left at.stages ≤ 2 ^ 56
  given_by-bound rises start at stay fits maximum bound =
      let up = max_of-le acts rises at.stages (taken_of at) max_frames bound in
      let same : max_of (kinds acts at.stages) max_frames ≡ max_of (kinds acts start.stages) max_frames = ap (λ (rs : List R). max_of (map acts.kind_of rs) max_frames) stay in
      omega (arith, maximum, up, same, fits)
