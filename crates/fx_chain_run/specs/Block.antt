-- Whole buffers of frames through a flow (this project's profile).
use Rattle.std.specs.Prelude.{◌≡◌, ℕ, ◌+◌, ◌*◌, ◌<◌, ◌≤◌, false, List, ◌++◌, drop, length, Option}
use Rattle.fx_frame_base.specs.declared.coding.Coding.{Coding}
use Rattle.fx_frame_base.specs.Frame.{Samples}
use Rattle.fx_frame_base.specs.Holds.{kinds}
use Rattle.fx_frame_base.specs.Stage.{Acts}
use Rattle.fx_chain_flow.specs.Feed.{FlowFed, FlowGave}
use Rattle.fx_frame_base.specs.Io.{ByteReader}
use Rattle.fx_chain_flow.specs.Parts.{Parts, given_by, taken_of}
use Rattle.fx_chain_flow.specs.Steps.{IsHungry}
use Rattle.fx_chain_flow.specs.Composed.{enough_for}
use Rattle.fx_sound.specs.Container.{after_frames, first_frames}
use Rattle.fx_sound.specs.Output.{Pending, bytes_put}
use Rattle.fx_sound.specs.Sound.{AreHeld, Reading, size_of}
use Rattle.fx_sound.specs.Source.{Held}
use Rattle.fx_chain_run.specs.declared.frame_writer.FrameWriter.{FrameWriter}
use Rattle.fx_chain_run.specs.Pump.{Pumped, PumpedFront, Start}
use Rattle.fx_chain_run.specs.FrameWriter.{coded, coded_clips}

module _ {S R : Type 0} (acts : Acts S R) where
  -- A flow waits for the next frame of a sound.
  pub record AwaitsNext (f : Parts S) (p : Reading) : Type 0 where
    -- it took no frame that it has not passed on, and was not given the end
    pub hungry : IsHungry acts f
    -- its frames are those of the sound
    pub width : f.channels ≡ p.channels
    -- it took all that were read
    pub taken : taken_of f ≡ p.frames

  -- What was put into a frame writer since its head is no more than the frames that the flow gave can come to.
  pub record OutputBound (f : Parts S) (w : FrameWriter) : Type 0 where
    -- the bytes, the head among them
    pub free : bytes_put w.output ≤ 68 + 64 * given_by acts f.left f.stages
    -- the clips
    pub bound : w.clips ≤ 16 * given_by acts f.left f.stages

module _ {S R X : Type 0} (acts : Acts S R) where
  -- Frames that a source held went into a flow, and its output was appended to the pending bytes. None went
  -- in where some stage had enough.
  pub record Blocked (f f' : Parts S) (s s' : Held X) (p p' : Reading) (coding : Coding) (clips clips' : ℕ) (out out' : Pending) : Type 0 where
    pub count : ℕ
    pub given : List Samples
    pub held : AreHeld p s.bytes count
    pub bytes : s'.bytes ≡ drop (count * size_of p) s.bytes
    pub reader : s'.reader ≡ s.reader
    pub short : s'.short ≡ s.short
    pub counted : p' ≡ after_frames p count
    pub fed : FlowFed acts f (first_frames p.coding p.channels count s.bytes) given f'
    pub gave : FlowGave acts f (first_frames p.coding p.channels count s.bytes) given f'
    pub wants : (m : ℕ) → m < count → enough_for (kinds acts f.stages) (taken_of f + m) ≡ false
    pub clipped : clips' ≡ clips + coded_clips coding given
    pub put : out'.bytes ≡ out.bytes ++ coded coding given
    pub written : out'.written ≡ out.written

  module _ (device : ByteReader X) (f f' : Parts S) (s s' : Held X) (p p' : Reading) (w w' : FrameWriter) (wrote wrote' : Option (List ℕ)) where
    -- frames went on through the flow, whatever the run began with
    abbrev pub PumpsOn : Type 0
    PumpsOn = (first : Start S X) → Pumped acts device first f s p w.coding w.clips w.output wrote
        → Pumped acts device first f' s' p' w'.coding w'.clips w'.output wrote'

    -- the same where the writer failed
    abbrev pub PumpsFront : Type 0
    PumpsFront = (first : Start S X) → Pumped acts device first f s p w.coding w.clips w.output wrote
        → PumpedFront acts device first f' s' p' w'.clips w'.output wrote'

-- Frames that were held were taken, and nothing was read.
pub record PassedHeld {X : Type 0} (old new : Held X) (p p' : Reading) : Type 0 where
  -- none was given back
  pub more : p.frames ≤ p'.frames
  -- the reader is as before
  pub reader : new.reader ≡ old.reader
  -- and so is whether its last read was short
  pub short : new.short ≡ old.short
  -- the bytes of what was taken and of what is held
  pub held : p'.frames * size_of p + length new.bytes ≡ p.frames * size_of p + length old.bytes
