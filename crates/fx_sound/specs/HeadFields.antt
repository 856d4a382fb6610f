-- The meaning of the fields of a head.
use Rattle.std.specs.Prelude.{◌<◌, ◌≤◌, Bool, true, false, IsTrue, Result, Ok, Err}
use Rattle.fx_sound.specs.declared.head.Kind.{Kind}
use Rattle.fx_sound.specs.declared.head.HeadFault.{HeadFault}
use Rattle.fx_sound.specs.declared.head.HeadFault.TheVariants.{ReadFailed, UnknownType, Truncated, BadHeader, NotInProfile, TooManyChannels, HeadTooLong}
use Rattle.fx_sound.specs.declared.fields.Format.{Format}
use Rattle.fx_sound.specs.Kind.{is_coding_of}

-- a rate of at least 1, 1 to 16 channels, and a coding of the kind
pub record IsProper (kind : Kind) (f : Format) : Type 0 where
  pub rated : 0 < f.rate
  pub some : 0 < f.channels
  pub maximum : f.channels ≤ 16
  pub coded : IsTrue (is_coding_of kind f.coding)

-- whether a read failed
abbrev pub is_read_failure : {X : Type 0} → Result X HeadFault → Bool
is_read_failure (Ok x) = false
is_read_failure (Err ReadFailed) = true
is_read_failure (Err UnknownType) = false
is_read_failure (Err Truncated) = false
is_read_failure (Err BadHeader) = false
is_read_failure (Err NotInProfile) = false
is_read_failure (Err TooManyChannels) = false
is_read_failure (Err HeadTooLong) = false
