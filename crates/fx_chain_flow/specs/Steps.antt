-- What a step does to stages in sequence (this project's profile).
use Rattle.std.specs.Prelude.{ℕ, ◌+◌, ◌-◌, ◌≤◌, Bool, true, false, List, [], ◌∷◌, ◌++◌, ◌≡◌, ◌⊎◌, length, map, Option, Some, None, option_to_list}
use Rattle.fx_frame_base.specs.Frame.{Samples}
use Rattle.fx_frame_base.specs.Stage.{Acts}
use Rattle.fx_frame_base.specs.Holds.{recipes, kinds, total}
use Rattle.fx_chain_flow.specs.Parts.{Parts, taken_of, work, moves_of, ended_of, through, wholes, AllDry, AllDetermined, AllEnded, IsLastWet, IsFirstOpen, HandedOver, PipelineFed, EndPassed, given_by, max_of}
use Rattle.fx_chain_flow.specs.Composed.{Whole, composed, composed_wholes, due_of, enough_for}
use Rattle.fx_chain_flow.specs.declared.flow.State.{State}
use Rattle.fx_chain_flow.specs.declared.flow.State.TheVariants.{Hungry, Busy, Done}
use Rattle.fx_chain_flow.specs.declared.flow.Step.{Step}
use Rattle.fx_chain_flow.specs.declared.flow.Step.TheVariants.{Moved, Given, Idle}

-- the frame that a step gave
abbrev pub given_out : Step → List Samples
given_out (Given frame) = frame ∷ []
given_out Moved = []
given_out Idle = []

-- the frames that a step handed over
abbrev pub handed : Step → ℕ
handed (Given frame) = 1
handed Moved = 1
handed Idle = 0

-- what the step is where this frame came out, or none
abbrev pub step_of : Option Samples → Step
step_of (Some frame) = Given frame
step_of None = Moved

module _ {S R : Type 0} (acts : Acts S R) where
  -- the frames to be given, if these frames come and then the end
  abbrev pub rest_of : Parts S → List Samples → List Samples
  rest_of f z = through acts f.stages (option_to_list f.inlet ++ z)

  -- for each stage what it gives in all
  abbrev pub wholes_of : Parts S → List Samples → List Whole
  wholes_of f z = wholes acts f.stages (option_to_list f.inlet ++ z)

  -- the frames that the stages give in all, if no frame comes any more
  abbrev pub given_in_all : Parts S → ℕ
  given_in_all f = total (λ (w : Whole). w.given) (wholes_of f [])

  -- for each stage the samples that were clipped in the frames that it gives in all, if no frame comes any more
  abbrev pub clips_in_all : Parts S → List ℕ
  clips_in_all f = map (λ (w : Whole). w.clips) (wholes_of f [])

  -- what comes out is what the composed definitions of these stages give
  abbrev pub RestIsComposed : Parts S → List S → Type 0
  RestIsComposed f stages = (z : List Samples) → rest_of f z ≡ composed acts.meaning (recipes acts stages) z

  -- and so are the frames and clips of each stage
  abbrev pub WholesAreComposed : Parts S → List S → Type 0
  WholesAreComposed f stages = (z : List Samples) → wholes_of f z ≡ composed_wholes acts.meaning (recipes acts stages) z

  -- the last stage has given all frames that are due for those that came
  abbrev pub GaveDue : Parts S → Type 0
  GaveDue f = given_by acts f.left f.stages ≡ due_of (kinds acts f.stages) (taken_of f)

  -- the last stage has given no more frames than it may for those that came
  abbrev pub GivenIsBounded : Parts S → Type 0
  GivenIsBounded f = given_by acts f.left f.stages ≤ max_of (kinds acts f.stages) (taken_of f)

  -- after the frames that came a stage gives nothing more, whatever input follows
  abbrev pub has_enough : Parts S → Bool
  has_enough f = enough_for (kinds acts f.stages) (taken_of f)

  -- it waits for a frame or the end
  pub record IsHungry (f : Parts S) : Type 0 where
    pub empty : f.inlet ≡ None
    pub not_ended : f.ended ≡ false
    pub dry : AllDry acts f.stages

  -- all frames were given
  pub record IsDone (f : Parts S) : Type 0 where
    pub empty : f.inlet ≡ None
    pub ended : f.ended ≡ true
    pub dry : AllDetermined acts f.stages
    pub all_ended : AllEnded acts f.stages

  abbrev pub StateIs : State → Parts S → Type 0
  StateIs Hungry f = IsHungry f
  StateIs Busy f = ¬ IsHungry f × ¬ IsDone f
  StateIs Done f = IsDone f

  -- the last stage that is not dry gave a frame, out or to the next one
  pub record GaveOn (old : Parts S) (step : Step) (new : Parts S) : Type 0 where
    pub place : ℕ
    pub out : Option Samples
    pub last : IsLastWet acts place old.stages
    pub over : HandedOver acts place out old.stages new.stages
    pub delivered : step ≡ step_of out
    pub others : new ≡ record old { stages = new.stages }

  -- where all were dry, the frame of the inlet went out or to the first stage
  pub record FedIn (old : Parts S) (step : Step) (new : Parts S) : Type 0 where
    pub frame : Samples
    pub out : Option Samples
    pub dry : AllDry acts old.stages
    pub inlet : old.inlet ≡ Some frame
    pub fed : PipelineFed acts frame out old.stages new.stages
    pub delivered : step ≡ step_of out
    pub others : new ≡ record old { stages = new.stages; inlet = None; left = old.left + 1 }

  -- where all were dry and the inlet was empty, the first stage that was not ended was given the end; those before it had given
  -- all
  pub record StepPassedOn (old : Parts S) (step : Step) (new : Parts S) : Type 0 where
    pub place : ℕ
    pub dry : AllDetermined acts old.stages
    pub empty : old.inlet ≡ None
    pub ended : old.ended ≡ true
    pub first : IsFirstOpen acts place old.stages
    pub passed : EndPassed acts place old.stages new.stages
    pub delivered : step ≡ Idle
    pub others : new ≡ record old { stages = new.stages }

  -- one frame moved, or the end
  abbrev pub MovedOn : Parts S → Step → Parts S → Type 0
  MovedOn old step new = GaveOn old step new ⊎ (FedIn old step new ⊎ StepPassedOn old step new)

  -- what one step does to a flow
  pub record Steps (old : Parts S) (step : Step) (new : Parts S) : Type 0 where
    -- the frames to come are those that were to come, but for the one given
    pub rest : (z : List Samples) → (old.ended ≡ true → z ≡ []) → rest_of old z ≡ given_out step ++ rest_of new z
    -- no stage gives another number of frames or clips in all
    pub whole : (z : List Samples) → (old.ended ≡ true → z ≡ []) → wholes_of new z ≡ wholes_of old z
    pub recipes_stay : recipes acts new.stages ≡ recipes acts old.stages
    pub moves : moves_of acts new ≡ moves_of acts old + handed step
    -- it hands over one frame, or one more stage is ended
    pub steps : moves_of acts new + ended_of acts new.stages ≡ moves_of acts old + ended_of acts old.stages + 1
    pub taken : taken_of new ≡ taken_of old
    pub ended : new.ended ≡ old.ended
    pub channels : new.channels ≡ old.channels
    pub given : given_by acts new.left new.stages ≡ given_by acts old.left old.stages + length (given_out step)
    -- at most this number of hand-overs and ends, for the frames that came
    pub within : moves_of acts new + ended_of acts new.stages ≤ work (kinds acts new.stages) (taken_of new) + length new.stages

  -- a number of steps in sequence, each made where the flow waited for steps
  pub data StepsInSequence (first : Parts S) : ℕ → Parts S → Type 0 where
    not_begun : StepsInSequence first 0 first
    one_more : (n : ℕ) (step : Step) (f f' : Parts S) → StepsInSequence first n f → StateIs Busy f → Steps f step f' → StepsInSequence first (n + 1) f'

  -- one step more, after however many
  abbrev pub StepsOn : Parts S → Parts S → Type 0
  StepsOn old new = (first : Parts S) (n : ℕ) → StepsInSequence first n old → StepsInSequence first (n + 1) new

  -- no more steps follow in sequence than the remaining work, and one for each stage
  abbrev pub StepsAreBounded : Parts S → Type 0
  StepsAreBounded f = (n : ℕ) (last : Parts S) → StepsInSequence f n last → n ≤ work (kinds acts f.stages) (taken_of f) - moves_of acts f + length f.stages
