use Rattle.std.proofs.Common.{ℕ, ◌+◌, ◌-◌, ◌<◌, ◌≤◌, ◌^◌, true, false, List, [], ◌∷◌, ◌++◌, ◌≡◌, length, arith, refl, sym, ap, ◌∙◌, Some, None, Option, option_to_list, map, get_or}
use Rattle.std.proofs.lemmas.Bool.{false_from_ne_true, true_from_ne_false}
use Rattle.std.proofs.lemmas.List.{length-map}
use Rattle.fx_frame_base.specs.Frame.{Samples}
use Rattle.fx_frame_base.specs.Stage.{Acts}
use Rattle.fx_frame_base.specs.Holds.{total, recipes, kinds}
use Rattle.fx_chain_flow.specs.Parts.{Parts, taken_of, work, moves_of, given_by, ended_of, AllDetermined, AllEnded, IsLastWet, IsFirstOpen, CanHandOver, HandedOver, CanFeed, PipelineFed, EndPassed}
use Rattle.fx_chain_flow.specs.Composed.{Whole}
use Rattle.fx_chain_flow.specs.Sound.{IsSound}
use Rattle.fx_chain_flow.specs.Steps.{wholes_of, IsHungry, IsDone, rest_of, Steps, StepsInSequence, not_begun, one_more, step_of, given_out, handed}
use Rattle.fx_chain_flow.proofs.Laws.{last-HandedOver, last-Fed, last-EndPassed, through-HandedOver, recipes-HandedOver, given-HandedOver, ended-HandedOver, wholes-HandedOver, wholes-Done, given-wholes, clips-wholes, Joined-HandedOver, CanHandOver-from, through-Fed, recipes-Fed, given-Fed, ended-Fed, wholes-Fed, Joined-Fed, CanFeed-from, through-EndPassed, recipes-EndPassed, given-EndPassed, ended-EndPassed, wholes-EndPassed, Joined-EndPassed, Joined-along, work-le}
use Rattle.fx_chain_flow.proofs.HandOvers.{AllDetermined-dry}
use Rattle.fx_chain_flow.specs.declared.flow.Step.TheVariants.{Idle}
use Rattle.fx_frame_base.proofs.Flags.{flag-le}

-- stages with the same recipes have the same kinds
pub kinds-stay : {S R : Type 0} (acts : Acts S R) (new old : List S) → recipes acts new ≡ recipes acts old → kinds acts new ≡ kinds acts old
kinds-stay acts new old e = ap (map acts.kind_of) e

handed-step_of : (out : Option Samples) → handed (step_of out) ≡ 1
handed-step_of (Some frame) = refl
handed-step_of None = refl

pub given_out-step_of : (out : Option Samples) → given_out (step_of out) ≡ option_to_list out
given_out-step_of (Some frame) = refl
given_out-step_of None = refl

module _ {S R : Type 0} (acts : Acts S R) (rises : (r : R) (m n : ℕ) → m ≤ n → (acts.kind_of r).maximum m ≤ (acts.kind_of r).maximum n) where
  ended-le : (stages : List S) → ended_of acts stages ≤ length stages
  ended-le [] = omega arith
  ended-le (s ∷ stages) = let h = ended-le stages in let b = flag-le (acts.counts s).ended in omega arith

  -- a chain that is sound has done no more than its work
  pub within-sound : (f : Parts S) → IsSound acts f → moves_of acts f + ended_of acts f.stages ≤ work (kinds acts f.stages) (taken_of f) + length f.stages
  within-sound f sound =
      let w = work-le acts rises f.stages f.left (taken_of f) f.ended sound.joined (omega arith) in
      let b = ended-le f.stages in
      omega arith

  pub moves-sound : (f : Parts S) → IsSound acts f → moves_of acts f ≤ work (kinds acts f.stages) (taken_of f)
  moves-sound f sound =
      work-le acts rises f.stages f.left (taken_of f) f.ended sound.joined (omega arith)

  -- what a sequence of steps keeps, and what it adds
  StepsInSequence-counts : (first last : Parts S) (n : ℕ) → StepsInSequence acts first n last
      → (recipes acts last.stages ≡ recipes acts first.stages) × (taken_of last ≡ taken_of first) × (moves_of acts last + ended_of acts last.stages ≡ moves_of acts first + ended_of acts first.stages + n)
  StepsInSequence-counts first last n not_begun = (refl, refl, omega arith)
  StepsInSequence-counts first last n (one_more m step f f' pipeline busy steps) =
      let before = StepsInSequence-counts first f m pipeline in
      (steps.recipes_stay ∙ before.0, steps.taken ∙ before.1, omega (arith, steps.steps, before.2))

  -- successive steps are no more than the work that is left, and one for each stage
  pub StepsInSequence-bound : (first last : Parts S) (n : ℕ) → IsSound acts first → StepsInSequence acts first n last → n ≤ work (kinds acts first.stages) (taken_of first) - moves_of acts first + length first.stages
  StepsInSequence-bound first last n sound not_begun = omega arith
  StepsInSequence-bound first last n sound (one_more m step f f' pipeline busy steps) =
      let all = StepsInSequence-counts first f' (m + 1) (one_more m step f f' pipeline busy steps) in
      let same : length f'.stages ≡ length first.stages = simp length-map at (ap length all.0) in
      let maximum : work (kinds acts f'.stages) (taken_of f') ≡ work (kinds acts first.stages) (taken_of first) = ap (λ ks. work ks (taken_of f')) (kinds-stay acts f'.stages first.stages all.0) ∙ ap (work (kinds acts first.stages)) all.1 in
      omega (arith, steps.within, all.2, same, maximum, moves-sound first sound)

  -- the last stage that is not dry may hand over
  pub CanHandOver-sound : (f : Parts S) (i : ℕ) → IsSound acts f → IsLastWet acts i f.stages → CanHandOver acts i f.stages
  CanHandOver-sound f i sound wet =
      CanHandOver-from acts rises i f.stages f.left f.ended f.channels (2 ^ 40) wet sound.joined sound.planned.matching sound.planned.within (let h = sound.bound in omega arith)

  -- the chain after stage i gave a frame
  abbrev pub after_over : Parts S → List S → Parts S
  after_over f stages = record f { stages = stages }

  pub IsSound-over : (f : Parts S) (i : ℕ) (out : Option Samples) (stages : List S) → IsSound acts f → IsLastWet acts i f.stages → HandedOver acts i out f.stages stages → IsSound acts (after_over f stages)
  IsSound-over f i out stages sound wet h =
      record {
        planned = rw (kinds-stay acts _ _ (recipes-HandedOver acts i out f.stages stages h)) sound.planned;
        joined = Joined-HandedOver acts rises i out f.stages stages f.left f.ended (CanHandOver-sound f i sound wet) h sound.joined;
        bound = sound.bound;
        inlet = sound.inlet;
        closed = sound.closed;
      }

  pub Steps-over : (f : Parts S) (i : ℕ) (out : Option Samples) (stages : List S) → IsSound acts f → IsLastWet acts i f.stages → HandedOver acts i out f.stages stages → Steps acts f (step_of out) (after_over f stages)
  Steps-over f i out stages sound wet h =
      record {
        rest = λ z e. through-HandedOver acts i out f.stages stages h _ ∙ ap (λ w. w ++ rest_of acts (after_over f stages) z) (sym (given_out-step_of out));
        whole = λ z e. wholes-HandedOver acts i out f.stages stages h _;
        recipes_stay = recipes-HandedOver acts i out f.stages stages h;
        moves = rw (handed-step_of out) (let g = given-HandedOver acts i out f.stages stages h in omega arith);
        steps = let e = ended-HandedOver acts i out f.stages stages h in let g = given-HandedOver acts i out f.stages stages h in omega arith;
        taken = refl;
        ended = refl;
        channels = refl;
        given = last-HandedOver acts i out f.stages stages f.left h ∙ ap (λ w. given_by acts f.left f.stages + length w) (sym (given_out-step_of out));
        within = within-sound (after_over f stages) (IsSound-over f i out stages sound wet h);
      }

  -- it has counted fewer frames than it may
  pub moves-fit : (f : Parts S) → IsSound acts f → moves_of acts f + 1 < 2 ^ 64
  moves-fit f sound =
      let w = work-le acts rises f.stages f.left (2 ^ 40) f.ended sound.joined (let h = sound.bound in omega arith) in
      let b = sound.planned.work in
      omega arith

  -- the chain after the frame left the inlet
  abbrev pub after_feed : Parts S → List S → Parts S
  after_feed f stages = record f { stages = stages; inlet = None; left = f.left + 1 }

  -- what is in the inlet came before the end
  not_closed : (f : Parts S) (frame : Samples) → IsSound acts f → f.inlet ≡ Some frame → f.ended ≡ false
  not_closed f frame sound e = false_from_ne_true f.ended (λ q. let k = sound.closed q in absurd (cc (k, e)))

  pub CanFeed-sound : (f : Parts S) (frame : Samples) → IsSound acts f → AllDetermined acts f.stages → f.inlet ≡ Some frame → CanFeed acts frame f.stages
  CanFeed-sound f frame sound dry e =
      let bound : f.left < 2 ^ 40 = let h = rw e at sound.bound in omega arith in
      CanFeed-from acts rises frame f.stages f.left f.ended f.channels (2 ^ 40) dry (not_closed f frame sound e) sound.joined sound.planned.matching sound.planned.within bound (sound.inlet frame e).1

  pub IsSound-feed : (f : Parts S) (frame : Samples) (out : Option Samples) (stages : List S) → IsSound acts f → AllDetermined acts f.stages → f.inlet ≡ Some frame → PipelineFed acts frame out f.stages stages → IsSound acts (after_feed f stages)
  IsSound-feed f frame out stages sound dry e h =
      record {
        planned = rw (kinds-stay acts _ _ (recipes-Fed acts frame out f.stages stages h)) sound.planned;
        joined = Joined-Fed acts rises frame out f.stages stages f.left f.ended (CanFeed-sound f frame sound dry e) h sound.joined;
        bound = let k = rw e at sound.bound in omega arith;
        inlet = λ x q. absurd (cc);
        closed = λ q. refl;
      }

  pub Steps-feed : (f : Parts S) (frame : Samples) (out : Option Samples) (stages : List S) → IsSound acts f → AllDetermined acts f.stages → f.inlet ≡ Some frame → PipelineFed acts frame out f.stages stages → Steps acts f (step_of out) (after_feed f stages)
  Steps-feed f frame out stages sound dry e h =
      record {
        rest = λ z q. rw e (through-Fed acts frame out f.stages stages h z ∙ ap (λ w. w ++ rest_of acts (after_feed f stages) z) (sym (given_out-step_of out)));
        whole = λ z q. rw e (wholes-Fed acts frame out f.stages stages h z);
        recipes_stay = recipes-Fed acts frame out f.stages stages h;
        moves = rw (handed-step_of out) (let g = given-Fed acts frame out f.stages stages h in omega arith);
        steps = let k = ended-Fed acts frame out f.stages stages h in let g = given-Fed acts frame out f.stages stages h in omega arith;
        taken = rw e (omega arith);
        ended = refl;
        channels = refl;
        given = last-Fed acts frame out f.stages stages f.left h ∙ ap (λ w. given_by acts f.left f.stages + length w) (sym (given_out-step_of out));
        within = within-sound (after_feed f stages) (IsSound-feed f frame out stages sound dry e h);
      }

  -- the chain after the end was passed on
  abbrev pub after_pass : Parts S → List S → Parts S
  after_pass f stages = record f { stages = stages }

  pub IsSound-pass : (f : Parts S) (i : ℕ) (stages : List S) → IsSound acts f → f.ended ≡ true → AllDetermined acts f.stages → IsFirstOpen acts i f.stages → EndPassed acts i f.stages stages → IsSound acts (after_pass f stages)
  IsSound-pass f i stages sound over dry first h =
      record {
        planned = rw (kinds-stay acts _ _ (recipes-EndPassed acts i f.stages stages h)) sound.planned;
        joined = Joined-along acts _ _ _ _ stages refl (sym over) (Joined-EndPassed acts i f.stages stages f.left dry first h (Joined-along acts _ _ _ _ f.stages refl over sound.joined));
        bound = sound.bound;
        inlet = sound.inlet;
        closed = sound.closed;
      }

  pub Steps-pass : (f : Parts S) (i : ℕ) (stages : List S) → IsSound acts f → f.ended ≡ true → AllDetermined acts f.stages → IsFirstOpen acts i f.stages → EndPassed acts i f.stages stages → Steps acts f Idle (after_pass f stages)
  Steps-pass f i stages sound over dry first h =
      let empty = sound.closed over in
      record {
        rest = λ z q. rw (q over, empty) (sym (through-EndPassed acts i f.stages stages dry first h));
        whole = λ z q. rw (q over, empty) (wholes-EndPassed acts i f.stages stages dry first h);
        recipes_stay = recipes-EndPassed acts i f.stages stages h;
        moves = let g = given-EndPassed acts i f.stages stages h in omega arith;
        steps = let k = ended-EndPassed acts i f.stages stages first h in let g = given-EndPassed acts i f.stages stages h in omega arith;
        taken = refl;
        ended = refl;
        channels = refl;
        given = rw (last-EndPassed acts i f.stages stages f.left h) (omega arith);
        within = within-sound (after_pass f stages) (IsSound-pass f i stages sound over dry first h);
      }

module _ {S R : Type 0} (acts : Acts S R) where
  -- where nothing is to be moved and it is not hungry, the end was given
  pub ended-busy : (f : Parts S) → f.inlet ≡ None → AllDetermined acts f.stages → (IsHungry acts f → ⊥) → f.ended ≡ true
  ended-busy f empty dry busy = true_from_ne_false f.ended (λ e. busy (record { empty = empty; not_ended = e; dry = AllDetermined-dry acts f.stages dry }))

  -- a busy chain has something to do
  pub never-idle : (f : Parts S) → f.inlet ≡ None → AllDetermined acts f.stages → AllEnded acts f.stages → (IsHungry acts f → ⊥) → (IsDone acts f → ⊥) → ⊥
  never-idle f empty dry ended busy not_done = not_done (record { empty = empty; ended = ended-busy f empty dry busy; dry = dry; all_ended = ended })

  pub moves-done : (f : Parts S) → IsSound acts f → IsDone acts f → moves_of acts f ≡ taken_of f + total (λ (w : Whole). w.given) (wholes_of acts f [])
  moves-done f sound done =
      rw (done.empty, wholes-Done acts f.stages done.dry done.all_ended, given-wholes acts f.stages) (omega arith)

  pub clips-done : (f : Parts S) (i : ℕ) → IsDone acts f → get_or (map (λ s. (acts.counts s).clips) f.stages) i 0 ≡ get_or (map (λ (w : Whole). w.clips) (wholes_of acts f [])) i 0
  clips-done f i done = rw (done.empty, wholes-Done acts f.stages done.dry done.all_ended) (sym (clips-wholes acts f.stages i))
