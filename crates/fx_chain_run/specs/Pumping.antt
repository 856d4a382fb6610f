-- What a run through a flow begins with, and what it has done when it ends or stops (this project's profile).
use Rattle.std.specs.Prelude.{◌≡◌, ℕ, ◌+◌, ◌*◌, ◌≤◌, ◌^◌, ◌++◌, true, false, not, List, [], MatchBool, OnErr, OnOk, length, Option, Some, Result, Err}
use Rattle.fx_frame_base.specs.declared.coding.Coding.{Coding}
use Rattle.fx_frame_base.specs.declared.stage.TheConstants.{MAX_FRAMES}
use Rattle.fx_frame_base.specs.Frame.{Samples}
use Rattle.fx_frame_base.specs.Holds.{kinds, recipes}
use Rattle.fx_frame_base.specs.Io.{ByteReader}
use Rattle.fx_frame_base.specs.Moments.{Moment}
use Rattle.fx_frame_base.specs.Stage.{Acts}
use Rattle.fx_chain_flow.specs.Composed.{due_of, enough_for}
use Rattle.fx_chain_flow.specs.Parts.{Parts, given_by, taken_of}
use Rattle.fx_chain_flow.specs.Steps.{IsDone, IsHungry, rest_of}
use Rattle.fx_sound.specs.Container.{ReadAllDelivered}
use Rattle.fx_sound.specs.Known.{IfKnown}
use Rattle.fx_sound.specs.Output.{bytes_put}
use Rattle.fx_sound.specs.Sound.{Reading, size_of, within_sound}
use Rattle.fx_sound.specs.Source.{Held, HoldsWhatCame, to_come}
use Rattle.fx_chain_run.specs.declared.frame_writer.FrameWriter.{FrameWriter}
use Rattle.fx_chain_run.specs.declared.pump.Cause.{Cause}
use Rattle.fx_chain_run.specs.declared.pump.Cause.TheVariants.{TooLong}
use Rattle.fx_chain_run.specs.Report.{met_end}
use Rattle.fx_chain_run.specs.Run.{Flowed, FlowedFront, RanToEnd, WantsMore, is_write_failed, run_read_failed, sound_frames, unread_after}
use Rattle.fx_chain_run.specs.Waiting.{WaitedUntil, due_bytes}

module _ {S C : Type 0} (acts : Acts S C) where
  -- A new flow waits for the first frame.
  pub record BeginsFlow (f : Parts S) (channels : ℕ) : Type 0 where
    -- it took no frame that it has not passed on, and was not given the end
    pub hungry : IsHungry acts f
    -- it took no frame, and gave none
    pub new : (taken_of f ≡ 0) × (given_by acts f.left f.stages ≡ 0)
    -- its frames are those of the sound
    pub width : f.channels ≡ channels

  -- The flow after a run that took n frames, with or without a fault.
  pub record FlowAfter {F : Type 0} (result : Result F Cause) (f f' : Parts S) (n : ℕ) : Type 0 where
    -- without a fault it was given the end, and gave all
    pub done : OnOk result (IsDone acts f')
    -- unless a write failed, it waits for the next frame after a fault
    pub hungry : OnErr result (is_write_failed result ≡ false → IsHungry acts f')
    -- and has then given all that is due
    pub due : OnErr result (is_write_failed result ≡ false → given_by acts f'.left f'.stages ≡ due_of (kinds acts f.stages) n)
    -- its stages are the same
    pub recipes : recipes acts f'.stages ≡ recipes acts f.stages
    -- and so are the channels of its frames
    pub width : f'.channels ≡ f.channels
    -- it took these frames, and no others
    pub taken : taken_of f' ≡ n

  module _ {X F : Type 0} (device : ByteReader X) (result : Result F Cause) (f f' : Parts S) (s s' : Held X) (p p' : Reading) where
    -- What was sent in a run after a head.
    pub record RunSent (w w' : FrameWriter) (first now : Option (List ℕ)) (head : List ℕ) : Type 0 where
      -- unless a write failed, all that the flow gave
      pub sent : is_write_failed result ≡ false → IfKnown (to_come device.rest s) (λ bytes.
          Flowed acts f f' w.coding (sound_frames p p'.frames bytes) w'.clips first now w'.output head)
      -- and else a prefix of it
      pub write_failed : is_write_failed result ≡ true → IfKnown (to_come device.rest s) (λ bytes.
          FlowedFront acts f f' w.coding (sound_frames p p'.frames bytes) w'.clips first now w'.output head)
      -- the bytes, where all was sent
      pub free : is_write_failed result ≡ false → bytes_put w'.output ≤ 2 ^ 63

    -- How many frames of a sound a run took, and why no more.
    pub record RunTook : Type 0 where
      -- they are all in the bytes
      pub whole : IfKnown (to_come device.rest s) (λ bytes. p'.frames * size_of p ≤ length (within_sound p.left bytes))
      -- where the end was reached, it is that of the sound, and else no missing or stray byte is counted
      pub ends : MatchBool p'.over (IfKnown (to_come device.rest s) (λ bytes. RanToEnd p bytes p'.frames p'.missing p'.stray))
          ((p'.missing ≡ 0) × (p'.stray ≡ 0))
      -- it was reached where the flow was given the end though no stage had enough
      pub met : p'.over ≡ met_end f'.ended (enough_for (kinds acts f.stages) p'.frames)
      -- it was not reached where a read failed or the sound is too long
      pub over : OnErr result (is_write_failed result ≡ false → p'.over ≡ false)
      -- fewer frames were not enough for any stage
      pub wants : WantsMore (kinds acts f.stages) p'.frames
      -- without a fault the end was reached, or some stage had enough
      pub enough : OnOk result (MatchBool p'.over (enough_for (kinds acts f.stages) p'.frames ≡ false) (enough_for (kinds acts f.stages) p'.frames ≡ true))
      -- where it had, no further frame would change what the flow gives
      pub determined : OnOk result (p'.over ≡ false → IfKnown (to_come device.rest s) (λ bytes. (z : List Samples) →
          rest_of acts f (sound_frames p p'.frames bytes ++ z) ≡ rest_of acts f (sound_frames p p'.frames bytes)))
      -- where a read failed or the sound is too long, no stage had enough
      pub not_enough : OnErr result (is_write_failed result ≡ false → enough_for (kinds acts f.stages) p'.frames ≡ false)
      -- where a read failed, they are all whole frames of what was delivered
      pub read_failed : run_read_failed result ≡ true → ReadAllDelivered device.delivered s s'.reader p p'.frames
      -- where the sound is too long, one more frame follows after the maximum
      pub too_long : result ≡ Err TooLong → (p'.frames ≡ MAX_FRAMES) × IfKnown (to_come device.rest s) (λ bytes.
          (MAX_FRAMES + 1) * size_of p ≤ length (within_sound p.left bytes))
      -- never more than the maximum
      pub maximum : p'.frames ≤ MAX_FRAMES

-- The source after a run.
pub record SourceAfter {X F : Type 0} (device : ByteReader X) (result : Result F Cause) (s s' : Held X) (p p' : Reading) : Type 0 where
  -- unless a read failed, what is to come is what follows the frames that were taken, or, at its end, the sound
  pub left : run_read_failed result ≡ false → IfKnown (to_come device.rest s) (λ bytes.
      to_come device.rest s' ≡ Some (unread_after p (not p'.over) p'.frames bytes))
  -- else all that came after the frames is held
  pub came : run_read_failed result ≡ true → IfKnown (to_come device.rest s) (λ bytes.
      HoldsWhatCame device.delivered s s' bytes (p'.frames * size_of p))

-- Nothing of a sound was taken yet, and nothing was put into a frame writer.
pub record BeginsSound (p : Reading) (w : FrameWriter) : Type 0 where
  -- no frame was read, the end was not reached, and no missing or stray byte is counted
  pub fresh : (p.frames ≡ 0) × (p.over ≡ false) × (p.missing ≡ 0) × (p.stray ≡ 0)
  -- no byte is pending, none was written, and no sample was clipped
  pub empty : (w.output.bytes ≡ []) × (w.output.written ≡ 0) × (w.clips ≡ 0)

-- Before each read that may have had to wait, the writer had exactly the head and all that was due then.
abbrev pub WaitedForDue : {S C X : Type 0} → Acts S C → ByteReader X → (X → X → Moment → Type 0) → Parts S → Coding → List ℕ → Reading → Option (List ℕ) → Held X → X → Type 0
WaitedForDue acts device asked f coding head p first source reader =
    IfKnown (to_come device.rest source) (λ bytes. WaitedUntil asked (due_bytes acts f coding head p bytes) first source reader)
