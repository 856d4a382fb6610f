-- The invariant while the frames of a sound go through a flow to a writer (this project's profile).
use Rattle.std.specs.Prelude.{◌≡◌, ℕ, ◌+◌, ◌*◌, ◌≤◌, false, List, Option, Some, drop, length}
use Rattle.fx_frame_base.specs.declared.coding.Coding.{Coding}
use Rattle.fx_frame_base.specs.Holds.{kinds, recipes}
use Rattle.fx_frame_base.specs.Io.{ByteReader}
use Rattle.fx_frame_base.specs.Stage.{Acts}
use Rattle.fx_chain_flow.specs.Parts.{Parts, given_by, taken_of}
use Rattle.fx_chain_flow.specs.Steps.{IsHungry}
use Rattle.fx_frame_base.specs.declared.stage.TheConstants.{MAX_FRAMES}
use Rattle.fx_sound.specs.Container.{after_frames}
use Rattle.fx_sound.specs.Known.{IfKnown}
use Rattle.fx_sound.specs.Output.{Pending, bytes_put}
use Rattle.fx_sound.specs.Runs.{RanFrames}
use Rattle.fx_sound.specs.Sound.{Reading, size_of, within_sound}
use Rattle.fx_sound.specs.Source.{Held, Takes, to_come}
use Rattle.fx_chain_run.specs.Run.{Flowed, FlowedFront, WantsMore, sound_frames}

-- what a run begins with: a flow, a source, how far its sound was read, the coding and the head of the output, and what the
-- writer took before
pub record Start (S X : Type 0) : Type 0 where
  pub flow : Parts S
  pub source : Held X
  pub progress : Reading
  pub coding : Coding
  pub head : List ℕ
  pub wrote : Option (List ℕ)

module _ {S R X : Type 0} (acts : Acts S R) (device : ByteReader X) (first : Start S X) where
  -- the frames read so far went through the flow, which waits for the next, and what it gave was sent
  pub record Pumped (flow : Parts S) (source : Held X) (progress : Reading) (coding : Coding) (clips : ℕ) (out : Pending) (wrote : Option (List ℕ)) : Type 0 where
    pub maximum : progress.frames ≤ MAX_FRAMES
    pub begun : progress.over ≡ false
    pub ends : (progress.missing ≡ 0) × (progress.stray ≡ 0)
    pub at : progress ≡ after_frames first.progress progress.frames
    pub size : size_of progress ≡ size_of first.progress
    pub hungry : IsHungry acts flow
    pub taken : taken_of flow ≡ progress.frames
    pub width : flow.channels ≡ progress.channels
    pub stay : recipes acts flow.stages ≡ recipes acts first.flow.stages
    pub kept : flow.channels ≡ first.flow.channels
    pub wants : WantsMore (kinds acts first.flow.stages) progress.frames
    pub free : bytes_put out ≤ 68 + 64 * given_by acts flow.left flow.stages
    pub bound : clips ≤ 16 * given_by acts flow.left flow.stages
    pub coded : coding ≡ first.coding
    pub ran : IfKnown (to_come device.rest first.source) (λ bytes. RanFrames first.progress progress bytes progress.frames (to_come device.rest source))
    pub flowed : IfKnown (to_come device.rest first.source) (λ bytes.
        Flowed acts first.flow flow first.coding (sound_frames first.progress progress.frames bytes) clips first.wrote wrote out first.head)
    pub takes : Takes device.delivered first.source source (progress.frames * size_of first.progress)
    pub reads : device.failures source.reader ≡ device.failures first.source.reader

  -- the same where the writer failed
  pub record PumpedFront (flow : Parts S) (source : Held X) (progress : Reading) (clips : ℕ) (out : Pending) (wrote : Option (List ℕ)) : Type 0 where
    pub maximum : progress.frames ≤ MAX_FRAMES
    pub begun : progress.over ≡ false
    pub ends : (progress.missing ≡ 0) × (progress.stray ≡ 0)
    pub running : flow.ended ≡ false
    pub taken : taken_of flow ≡ progress.frames
    pub stay : recipes acts flow.stages ≡ recipes acts first.flow.stages
    pub kept : flow.channels ≡ first.flow.channels
    pub wants : WantsMore (kinds acts first.flow.stages) progress.frames
    pub whole : IfKnown (to_come device.rest first.source) (λ bytes. progress.frames * size_of first.progress ≤ length (within_sound first.progress.left bytes))
    pub left : IfKnown (to_come device.rest first.source) (λ bytes. to_come device.rest source ≡ Some (drop (progress.frames * size_of first.progress) bytes))
    pub flowed : IfKnown (to_come device.rest first.source) (λ bytes.
        FlowedFront acts first.flow flow first.coding (sound_frames first.progress progress.frames bytes) clips first.wrote wrote out first.head)
    pub reads : device.failures source.reader ≡ device.failures first.source.reader
