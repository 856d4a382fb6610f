-- The calls of a flow to its stages, in order, and the frames in transit between two of them (this project's profile).
use Rattle.std.specs.Prelude.{ℕ, ℤ, suc, ◌+◌, ◌<◌, ◌≤◌, ◌≡◌, true, List, [], ◌∷◌, ◌++◌, cond, drop, length, nat_eq, Option, Some, None, option_to_list}
use Rattle.fx_frame_base.specs.Early.{PassedWhile}
use Rattle.fx_frame_base.specs.Frame.{Samples}
use Rattle.fx_frame_base.specs.Holds.{held_sum, hold_sum, kinds}
use Rattle.fx_frame_base.specs.Lists.{pieces}
use Rattle.fx_frame_base.specs.Pipeline.{EachThrough}
use Rattle.fx_frame_base.specs.declared.feed.Passed.{Passed}
use Rattle.fx_frame_base.specs.Stage.{Acts}
use Rattle.fx_chain_flow.specs.Feed.{HoldsBound, channels_out}
use Rattle.fx_chain_flow.specs.StageCall.{StageCall, at_stage, end_to, through_all}
use Rattle.fx_chain_flow.specs.Parts.{Parts}

module _ {S R : Type 0} (acts : Acts S R) where
  -- The flow holds no more than its hold. So it is with the frames in transit too, where they are on their way to a stage.
  pub record FitsHold (transit : List Samples) (place : ℕ) (f : Parts S) : Type 0 where
    pub held : HoldsBound acts f
    pub to_stage : place < length f.stages → length (option_to_list f.inlet) + held_sum acts f.stages + length transit ≤ 1 + hold_sum (kinds acts f.stages)

  -- Stages in sequence were passed frames, one stage after another. Before each call and after the last, these stages and `others`
  -- come to no more frames than the maximum.
  abbrev pub AllFit : ℕ → ℕ → List S → List S → Type 0
  AllFit others maximum [] [] = others ≤ maximum
  AllFit others maximum (s ∷ stages) (s' ∷ stages') = (others + held_sum acts (s ∷ stages) ≤ maximum) × AllFit (others + length (acts.stored s')) maximum stages stages'
  AllFit others maximum old new = ⊥

module _ {S R : Type 0} (acts : Acts S R) (passed_while : List Samples → List Samples → List Samples → S → S → Type 0) where
  -- As many frames as came left the first stage early, and went through the others. With each call of these a line held what the
  -- first stage had stored without its oldest frames. So the frames of this line, those that the others stored, and those in transit
  -- were no more than the flow holds. That the line is the first stage's own is not stated.
  abbrev pub WentEarly : List Samples → List Samples → List S → List S → Type 0
  WentEarly xs gs (s ∷ stages) (s' ∷ stages') =
      (between : List Samples) × EachThrough acts xs between s s'
      × PassedWhile acts passed_while (drop (length xs) (acts.stored s)) between gs stages stages'
      × AllFit acts (length (drop (length xs) (acts.stored s)) + length between) (1 + hold_sum (kinds acts (s ∷ stages))) stages stages'
  WentEarly xs gs old new = ⊥

module _ {S R : Type 0} (acts : Acts S R) (handed : List S → StageCall → List S → Type 0) (passed_while : List Samples → List Samples → List Samples → S → S → Type 0) where
  -- A sequence of calls from the first state of a flow to the last: the frames that came, those that went out, and those in
  -- transit to the stage at a place, or out where it has no stage. Each call was made on the stages that the one before left.
  pub data InOrder (first : Parts S) : List Samples → List Samples → List Samples → ℕ → Parts S → Type 0 where
    begun : InOrder first [] [] [] 0 first
    -- a frame came to the empty inlet
    came : (xs gs : List Samples) (x : Samples) (f : Parts S) → InOrder first xs gs [] 0 f → f.inlet ≡ None → FitsHold acts [] 0 (record f { inlet = Some x })
        → InOrder first (xs ++ x ∷ []) gs [] 0 (record f { inlet = Some x })
    -- the end came
    end_came : (xs gs : List Samples) (f : Parts S) → InOrder first xs gs [] 0 f → InOrder first xs gs [] 0 (record f { ended = true })
    -- frames came past the empty inlet, on their way to the first stage
    came_on : (xs gs ys : List Samples) (f : Parts S) → InOrder first xs gs [] 0 f → f.inlet ≡ None → FitsHold acts ys 0 (record f { left = f.left + length ys })
        → InOrder first (xs ++ ys) gs ys 0 (record f { left = f.left + length ys })
    -- the frame in the inlet left it, on its way to the first stage
    left_inlet : (xs gs : List Samples) (x : Samples) (f : Parts S) → InOrder first xs gs [] 0 f → f.inlet ≡ Some x → FitsHold acts (x ∷ []) 0 (record f { inlet = None; left = f.left + 1 })
        → InOrder first xs gs (x ∷ []) 0 (record f { inlet = None; left = f.left + 1 })
    -- the stage at the place took the frames in transit, and those that it gave are in transit to the next place
    went_on : (xs gs transit given : List Samples) (place : ℕ) (f : Parts S) (stages : List S) → InOrder first xs gs transit place f → handed f.stages (at_stage place transit given) stages → FitsHold acts given (suc place) (record f { stages = stages })
        → InOrder first xs gs given (suc place) (record f { stages = stages })
    -- a stage was given the end
    end_went_on : (xs gs : List Samples) (place : ℕ) (f : Parts S) (stages : List S) → InOrder first xs gs [] 0 f → handed f.stages (end_to place) stages → FitsHold acts [] 0 (record f { stages = stages })
        → InOrder first xs gs [] 0 (record f { stages = stages })
    -- frames came past the empty inlet and went through all stages in one call, and some came out
    went_through : (xs gs ys zs : List Samples) (f : Parts S) (stages : List S) → InOrder first xs gs [] 0 f → f.inlet ≡ None → handed f.stages (through_all ys zs) stages → FitsHold acts [] 0 (record f { stages = stages; left = f.left + length ys })
        → InOrder first (xs ++ ys) (gs ++ zs) [] 0 (record f { stages = stages; left = f.left + length ys })
    -- frames came past the empty inlet to a stage that as many had left early, and these had gone through the others and out
    went_early : (xs gs ys zs : List Samples) (f : Parts S) (stages : List S) → InOrder first xs gs [] 0 f → f.inlet ≡ None → WentEarly acts passed_while ys zs f.stages stages → FitsHold acts [] 0 (record f { stages = stages; left = f.left + length ys })
        → InOrder first (xs ++ ys) (gs ++ zs) [] 0 (record f { stages = stages; left = f.left + length ys })
    -- the frames past the last stage went out
    went_out : (xs gs transit : List Samples) (place : ℕ) (f : Parts S) → InOrder first xs gs transit place f → place ≡ length f.stages → InOrder first xs (gs ++ transit) [] 0 f
    -- where no frame is in transit, the next call may be to any stage
    any_place : (xs gs : List Samples) (i j : ℕ) (f : Parts S) → InOrder first xs gs [] i f → InOrder first xs gs [] j f

  -- whichever calls led to the old state, in order and with no frame in transit: so are those that led on to the new one
  abbrev pub StaysInOrder : Parts S → Parts S → Type 0
  StaysInOrder old new = (first : Parts S) (xs gs : List Samples) → InOrder first xs gs [] 0 old → InOrder first xs gs [] 0 new

  -- the same, where this frame came
  abbrev pub TakesInOrder : Samples → Parts S → Parts S → Type 0
  TakesInOrder frame old new = (first : Parts S) (xs gs : List Samples) → InOrder first xs gs [] 0 old → InOrder first (xs ++ frame ∷ []) gs [] 0 new

  -- the same, where these frames went out
  abbrev pub GivesInOrder : List Samples → Parts S → Parts S → Type 0
  GivesInOrder out old new = (first : Parts S) (xs gs : List Samples) → InOrder first xs gs [] 0 old → InOrder first xs (gs ++ out) [] 0 new

  -- a flow took frames at the front of the input, and gave those at the front of the output, by calls in order
  abbrev pub FedInOrder : Parts S → List ℤ → List ℤ → Passed → Parts S → Type 0
  FedInOrder first input output passed last = InOrder first (pieces first.channels passed.taken input) (pieces (channels_out acts first) passed.given output) [] 0 last

  -- the same, after whichever calls
  abbrev pub FedOnInOrder : Parts S → List ℤ → List ℤ → Passed → Parts S → Type 0
  FedOnInOrder old input output passed new =
      (first : Parts S) (xs gs : List Samples) → InOrder first xs gs [] 0 old
      → InOrder first (xs ++ pieces old.channels passed.taken input) (gs ++ pieces (channels_out acts old) passed.given output) [] 0 new

  -- From the old stages and the old inlet of a flow to the new ones no frame came, these went out, and those are in transit to the
  -- stage at a place. Where the move was from the inlet, at place 0, a frame left it.
  abbrev pub MovedInOrder : ℕ → List S → List S → Option Samples → Option Samples → List Samples → List Samples → ℕ → Type 0
  MovedInOrder from old new inlet inlet' gs transit place =
      (f : Parts S) → InOrder (record f { stages = old; inlet = inlet }) [] gs transit place (record f { stages = new; inlet = inlet'; left = f.left + cond (nat_eq from 0) 1 0 })
