-- Frames passed to a flow many at a time, and taken from it likewise (this project's profile).
use Rattle.std.specs.Prelude.{ℕ, ℤ, ◌+◌, ◌-◌, ◌*◌, ◌<◌, ◌≤◌, ◌≡◌, true, false, List, [], ◌∷◌, ◌++◌, drop, length, Some, option_to_list}
use Rattle.fx_frame_base.specs.Feed.{Fed, IsHeld, TookWithinSpace}
use Rattle.fx_frame_base.specs.Frame.{Samples}
use Rattle.fx_frame_base.specs.declared.feed.Passed.{Passed}
use Rattle.fx_frame_base.specs.Holds.{held_sum, hold_sum, kinds, recipes}
use Rattle.fx_frame_base.specs.Pipeline.{outputs_of}
use Rattle.fx_frame_base.specs.Lists.{pieces}
use Rattle.fx_frame_base.specs.Stage.{Acts, kind, spent}
use Rattle.fx_chain_flow.specs.Parts.{Parts, any_spent, given_by, taken_of}
use Rattle.fx_chain_flow.specs.Composed.{due_of, enough_for}
use Rattle.fx_chain_flow.specs.Steps.{IsHungry, MovedOn, StateIs, given_out, rest_of, wholes_of}
use Rattle.fx_chain_flow.specs.declared.flow.State.TheVariants.{Busy}
use Rattle.fx_chain_flow.specs.declared.flow.Step.{Step}
use Rattle.fx_chain_flow.specs.declared.flow.Step.TheVariants.{Given}

module _ {S R : Type 0} (acts : Acts S R) where
  -- the frames that it holds: in the inlet, and in the stages
  abbrev pub held_of : Parts S → ℕ
  held_of f = length (option_to_list f.inlet) + held_sum acts f.stages

  -- it holds no more frames than its hold
  abbrev pub HoldsBound : Parts S → Type 0
  HoldsBound f = held_of f ≤ 1 + hold_sum (kinds acts f.stages)

  -- the channels of the frames that it gives
  abbrev pub channels_out : Parts S → ℕ
  channels_out f = outputs_of f.channels (kinds acts f.stages)

  -- each of the `taken` frames was taken while the free space had a place for one frame more than was due before it
  abbrev pub FlowTookWithinSpace : Parts S → ℕ → ℕ → Type 0
  FlowTookWithinSpace f taken free =
      (n : ℕ) → n < taken → (due_of (kinds acts f.stages) (taken_of f + n) - given_by acts f.left f.stages + 1) * outputs_of f.channels (kinds acts f.stages) ≤ free

  -- a hungry flow, no stage of which was spent, and which had not enough, took a frame
  pub record TookIn (f f' : Parts S) (frame : Samples) : Type 0 where
    pub hungry : IsHungry acts f
    pub not_spent : any_spent acts f.stages ≡ false
    pub wants : enough_for (kinds acts f.stages) (taken_of f) ≡ false
    pub took : f' ≡ record f { inlet = Some frame }
    pub held : HoldsBound f'

  -- one step of a flow
  pub record Stepped (f : Parts S) (step : Step) (f' : Parts S) : Type 0 where
    pub moved : MovedOn acts f step f'
    pub held : HoldsBound f'

  -- a sequence of calls of `take` and `step`: the flow took these frames, gave those, and ended in the last state
  pub data FlowFed (first : Parts S) : List Samples → List Samples → Parts S → Type 0 where
    untouched : FlowFed first [] [] first
    taken_in : (xs gs : List Samples) (x : Samples) (f f' : Parts S) → FlowFed first xs gs f → TookIn f f' x → FlowFed first (xs ++ x ∷ []) gs f'
    stepped : (xs gs : List Samples) (step : Step) (f f' : Parts S) → FlowFed first xs gs f → Stepped f step f' → FlowFed first xs (gs ++ given_out step) f'

  -- the last of the calls was the step that gave the last of those frames
  pub record GaveLast (first : Parts S) (xs gs : List Samples) (f : Parts S) : Type 0 where
    pub earlier : List Samples
    pub frame : Samples
    pub before : Parts S
    pub all : gs ≡ earlier ++ frame ∷ []
    pub fed : FlowFed first xs earlier before
    pub gave : Stepped before (Given frame) f

  -- what was to be given is what was given and what is still to be given
  pub record FlowGave (first : Parts S) (xs gs : List Samples) (f : Parts S) : Type 0 where
    pub rest : (z : List Samples) → (first.ended ≡ true → z ≡ []) → rest_of acts first (xs ++ z) ≡ gs ++ rest_of acts f z
    pub whole : (z : List Samples) → (first.ended ≡ true → z ≡ []) → wholes_of acts f z ≡ wholes_of acts first (xs ++ z)
    pub recipes_stay : recipes acts f.stages ≡ recipes acts first.stages
    pub taken : taken_of f ≡ taken_of first + length xs
    pub given : given_by acts f.left f.stages ≡ given_by acts first.left first.stages + length gs
    pub ended : f.ended ≡ first.ended
    pub channels : f.channels ≡ first.channels

  -- a flow took frames at the front of the input, and gave those at the front of the output, by calls in sequence
  abbrev pub FlowFedSamples : Parts S → List ℤ → List ℤ → Passed → Parts S → Type 0
  FlowFedSamples first input output passed last = FlowFed first (pieces first.channels passed.taken input) (pieces (channels_out first) passed.given output) last

  -- it gave of what was to be given these frames, and the rest is still to be given
  abbrev pub FlowGaveSamples : Parts S → List ℤ → List ℤ → Passed → Parts S → Type 0
  FlowGaveSamples first input output passed last = FlowGave first (pieces first.channels passed.taken input) (pieces (channels_out first) passed.given output) last

  -- where the output has no space for another frame after those given, the last of the calls was the step that gave the last of them
  abbrev pub GaveLastWhenFull : Parts S → List ℤ → List ℤ → ℕ → Passed → Parts S → Type 0
  GaveLastWhenFull first input output free passed last =
      1 ≤ passed.given → free < passed.given * channels_out first + channels_out first
      → GaveLast first (pieces first.channels passed.taken input) (pieces (channels_out first) passed.given output) last

  -- where the frames that a flow took and gave lie
  pub record FlowPlaced (first : Parts S) (input before after : List ℤ) (passed : Passed) : Type 0 where
    -- those taken in the input
    pub read : passed.taken * first.channels ≤ length input
    -- those given in the output
    pub written : passed.given * channels_out first ≤ length after
    -- and the rest of the output is unchanged
    pub rest_unchanged : drop (passed.given * channels_out first) after ≡ drop (passed.given * channels_out first) before

  -- where a flow that was fed stopped
  pub record FlowStopped (first : Parts S) (input before after : List ℤ) (passed : Passed) (last : Parts S) : Type 0 where
    -- with space for another frame it is hungry or done
    pub waits : passed.given * channels_out first + channels_out first ≤ length after → StateIs acts Busy last → ⊥
    -- and hungry only once no whole frame of the input is left, or where a stage is spent
    pub used : passed.given * channels_out first + channels_out first ≤ length after → last.ended ≡ false → any_spent acts last.stages ≡ false → length input < passed.taken * first.channels + first.channels
    -- with no space for one frame nothing changes
    pub unchanged : length before < channels_out first → last ≡ first
    -- and with none left for another the last call gave the last frame
    pub full : GaveLastWhenFull first input after (length before) passed last

  -- a stage was fed from these samples, and wrote over those
  pub record WasFed (s s' : S) (input old new : List ℤ) (taken given : ℕ) : Type 0 where
    pub fed : Fed acts s (pieces (kind acts s).inputs taken input) (pieces (kind acts s).outputs given new) s'
    pub held : IsHeld acts s
    pub read : taken * (kind acts s).inputs ≤ length input
    pub written : given * (kind acts s).outputs ≤ length new
    pub rest_unchanged : drop (given * (kind acts s).outputs) new ≡ drop (given * (kind acts s).outputs) old
    pub dry : given * (kind acts s).outputs + (kind acts s).outputs ≤ length new → acts.dry s' ≡ true
    pub used : given * (kind acts s).outputs + (kind acts s).outputs ≤ length new → (acts.counts s').ended ≡ false → spent acts s' ≡ false → length input < taken * (kind acts s).inputs + (kind acts s).inputs
    pub free : TookWithinSpace acts s taken (length old)

  -- there is one stage, which may be fed from these samples
  abbrev pub CanFeedOnly : List ℤ → List S → Type 0
  CanFeedOnly input (s ∷ []) =
      (1 ≤ (kind acts s).inputs) × ((kind acts s).inputs ≤ 16)
      × ((n : ℕ) → n * (kind acts s).inputs ≤ length input → (acts.counts s).taken + n ≤ (kind acts s).limit)
  CanFeedOnly input stages = ⊥

  -- the only stage was fed
  abbrev pub FedOnly : List ℤ → List ℤ → List ℤ → ℕ → ℕ → List S → List S → Type 0
  FedOnly input old new taken given (s ∷ []) (s' ∷ []) = WasFed s s' input old new taken given
  FedOnly input old new taken given stages stages' = ⊥
