-- A whole sound in memory, against the definition of the container.
use Rattle.std.specs.Prelude.{◌≡◌, ◌≢◌, ℕ, ◌*◌, List, Result, Err, Some, drop, length}
use Rattle.fx_frame_base.specs.Frame.{Samples}
use Rattle.fx_frame_base.specs.Io.{ByteReader}
use Rattle.fx_sound.specs.declared.head.HeadFault.{HeadFault}
use Rattle.fx_sound.specs.declared.head.HeadFault.TheVariants.{ReadFailed}
use Rattle.fx_sound.specs.declared.sound.Sound.{Sound}
use Rattle.fx_sound.specs.declared.sound.SoundFault.{SoundFault}
use Rattle.fx_sound.specs.declared.sound.SoundFault.TheVariants as fault
use Rattle.fx_sound.specs.Container.{Outcome, ReadAllDelivered, at_end, frames_of_sound}
use Rattle.fx_sound.specs.Known.{IfKnown}
use Rattle.fx_sound.specs.Sound.{Reading, size_of, within_sound}
use Rattle.fx_sound.specs.Source.{Held, HoldsWhatCame, to_come}

-- what was read
abbrev pub outcome : Sound → Outcome
outcome s = record {
  kind = s.head.kind;
  format = record { rate = s.head.rate; channels = s.head.channels; coding = s.head.coding };
  announced = s.head.announced;
  frames = s.frames.items;
  missing = s.missing;
  stray = s.stray;
}

-- a fault of the head, where no read failed, is that of the container's definition
abbrev pub IsHeadFault : Result Outcome HeadFault → SoundFault → Type 0
IsHeadFault c (fault.Head e) = e ≢ ReadFailed → c ≡ Err e
IsHeadFault c (fault.Read e) = Unit {0}
IsHeadFault c fault.Memory = Unit {0}

-- a fault that came after the head
abbrev pub IsAfterHead : SoundFault → Type 0
IsAfterHead (fault.Head e) = ⊥
IsAfterHead (fault.Read e) = Unit {0}
IsAfterHead fault.Memory = Unit {0}

-- All frames of a sound were read, up to its end.
pub record ReadAllFrames {R : Type 0} (device : ByteReader R) (old new : Held R) (p p' : Reading) (items : List Samples) : Type 0 where
  -- their values
  pub frames : IfKnown (to_come device.rest old) (λ bytes. items ≡ frames_of_sound p.coding p.channels (within_sound p.left bytes))
  -- they are counted, and so are the missing and stray bytes
  pub end : IfKnown (to_come device.rest old) (λ bytes. p' ≡ at_end p (within_sound p.left bytes))
  -- what is to come is what follows the sound
  pub left : IfKnown (to_come device.rest old) (λ bytes. to_come device.rest new ≡ Some (drop (length (within_sound p.left bytes)) bytes))

-- A read failed after n frames.
pub record CutShortAfter {R : Type 0} (device : ByteReader R) (old new : Held R) (p : Reading) (n : ℕ) : Type 0 where
  -- they are all whole frames of what was delivered
  pub read_failed : ReadAllDelivered device.delivered old new.reader p n
  -- all that came after them is held
  pub came : IfKnown (to_come device.rest old) (λ bytes. HoldsWhatCame device.delivered old new bytes (n * size_of p))
