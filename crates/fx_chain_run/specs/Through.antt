-- Frames that go through a flow to a writer (this project's profile).
use Rattle.std.specs.Prelude.{◌≡◌, ℕ, ◌+◌, true, false, List, [], ◌∷◌, ◌++◌, length, Option, Some}
use Rattle.fx_frame_base.specs.declared.coding.Coding.{Coding}
use Rattle.fx_frame_base.specs.Frame.{Samples}
use Rattle.fx_frame_base.specs.Holds.{recipes}
use Rattle.fx_frame_base.specs.Stage.{Acts}
use Rattle.fx_chain_flow.specs.Parts.{Parts, given_by, taken_of}
use Rattle.fx_chain_flow.specs.Steps.{IsDone, IsHungry, MovedOn, given_out, rest_of, wholes_of}
use Rattle.fx_chain_flow.specs.declared.flow.Step.{Step}
use Rattle.fx_sound.specs.Output.{Pending, Sent, SendsMore}
use Rattle.fx_chain_run.specs.declared.frame_writer.FrameWriter.{FrameWriter}
use Rattle.fx_chain_run.specs.FrameWriter.{WroteAll, WroteFront, coded, coded_clips}

-- these bytes were appended to what is to be sent, or the writer took a prefix of that
abbrev pub SendsFront : Option (List ℕ) → Option (List ℕ) → Pending → Pending → List ℕ → Type 0
SendsFront now new_now out new_out bytes = (first : Option (List ℕ)) (all : List ℕ) → Sent first now out all → WroteFront first new_now new_out.written (all ++ bytes)

-- these bytes were appended to what is to be sent, and the writer took all of it
abbrev pub SendsAll : Option (List ℕ) → Option (List ℕ) → Pending → Pending → List ℕ → Type 0
SendsAll now new_now out new_out bytes = (first : Option (List ℕ)) (all : List ℕ) → Sent first now out all → WroteAll first new_now new_out.written (all ++ bytes)

module _ {S R : Type 0} (acts : Acts S R) where
  -- The state of a flow after a sequence of calls: it took these frames, each where it was hungry, gave those
  -- in its steps, and was given the end, if at all, where it was hungry.
  pub data Reached (first : Parts S) : List Samples → List Samples → Parts S → Type 0 where
    untouched : Reached first [] [] first
    took : (xs gs : List Samples) (x : Samples) (f f' : Parts S) → Reached first xs gs f → IsHungry acts f → f' ≡ record f { inlet = Some x } → Reached first (xs ++ x ∷ []) gs f'
    end_reported : (xs gs : List Samples) (f f' : Parts S) → Reached first xs gs f → IsHungry acts f → f' ≡ record f { ended = true } → Reached first xs gs f'
    stepped : (xs gs : List Samples) (step : Step) (f f' : Parts S) → Reached first xs gs f → MovedOn acts f step f' → Reached first xs (gs ++ given_out step) f'

  -- it waits for a frame or the end, or for nothing
  pub record RunWaits (f : Parts S) : Type 0 where
    pub hungry : f.ended ≡ false → IsHungry acts f
    pub done : f.ended ≡ true → IsDone acts f

  -- a flow was stepped, and gave these frames
  pub record RunGives (old new : Parts S) (given : List Samples) : Type 0 where
    pub rest : (z : List Samples) → (old.ended ≡ true → z ≡ []) → rest_of acts old z ≡ given ++ rest_of acts new z
    pub whole : (z : List Samples) → (old.ended ≡ true → z ≡ []) → wholes_of acts new z ≡ wholes_of acts old z
    pub recipes_stay : recipes acts new.stages ≡ recipes acts old.stages
    pub taken : taken_of new ≡ taken_of old
    pub ended : new.ended ≡ old.ended
    pub channels : new.channels ≡ old.channels
    pub counted : given_by acts new.left new.stages ≡ given_by acts old.left old.stages + length given
    pub reached : (first : Parts S) (xs gs : List Samples) → Reached first xs gs old → Reached first xs (gs ++ given) new

  -- a flow gave frames, and they were sent
  pub record Drained (old new : Parts S) (coding : Coding) (clips new_clips : ℕ) (now new_now : Option (List ℕ)) (out new_out : Pending) : Type 0 where
    pub given : List Samples
    pub gives : RunGives old new given
    pub clipped : new_clips ≡ clips + coded_clips coding given
    pub sends : SendsMore now new_now out new_out (coded coding given)

  -- a flow gave frames, and the writer failed at one of them
  pub record RunCutOff (old new : Parts S) (coding : Coding) (clips new_clips : ℕ) (now new_now : Option (List ℕ)) (out new_out : Pending) : Type 0 where
    pub given : List Samples
    pub gives : RunGives old new given
    pub clipped : new_clips ≡ clips + coded_clips coding given
    pub front : SendsFront now new_now out new_out (coded coding given)

  -- the frames went to a frame writer
  abbrev pub DrainsInto : Parts S → Parts S → FrameWriter → FrameWriter → Option (List ℕ) → Option (List ℕ) → Type 0
  DrainsInto old new w w' now new_now = Drained old new w.coding w.clips w'.clips now new_now w.output w'.output

  -- the same where the writer failed
  abbrev pub CutOffInto : Parts S → Parts S → FrameWriter → FrameWriter → Option (List ℕ) → Option (List ℕ) → Type 0
  CutOffInto old new w w' now new_now = RunCutOff old new w.coding w.clips w'.clips now new_now w.output w'.output

  -- A flow took these frames, and what it gave for them was sent after the head. Its output for them and any further
  -- input begins so.
  pub record Through (start at : Parts S) (frames : List Samples) (given : List Samples) : Type 0 where
    pub rest : (z : List Samples) → (at.ended ≡ true → z ≡ []) → rest_of acts start (frames ++ z) ≡ given ++ rest_of acts at z
    pub whole : (z : List Samples) → (at.ended ≡ true → z ≡ []) → wholes_of acts at z ≡ wholes_of acts start (frames ++ z)
    pub counted : given_by acts at.left at.stages ≡ length given
    pub reached : Reached start frames given at
