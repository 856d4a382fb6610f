-- Which fault a call ended in.
use Rattle.std.specs.Prelude.{Bool, true, false, Result, Ok, Err}
use Rattle.fx_sound.specs.declared.progress.ReadFault.{ReadFault}
use Rattle.fx_sound.specs.declared.progress.ReadFault.TheVariants.{ReadFailed, TooLong}
use Rattle.fx_sound.specs.declared.sound.SoundFault.{SoundFault}
use Rattle.fx_sound.specs.declared.sound.SoundFault.TheVariants as sounds
use Rattle.fx_sound.specs.HeadFields.{is_read_failure}

-- whether a read failed
abbrev pub is_read_failed : {X : Type 0} → Result X ReadFault → Bool
is_read_failed (Ok x) = false
is_read_failed (Err ReadFailed) = true
is_read_failed (Err TooLong) = false

-- whether a read of the head or after it failed
abbrev pub is_sound_read_failed : {X : Type 0} → Result X SoundFault → Bool
is_sound_read_failed (Ok x) = false
is_sound_read_failed (Err (sounds.Head e)) = is_read_failure {X = Bool} (Err e)
is_sound_read_failed (Err (sounds.Read e)) = is_read_failed {X = Bool} (Err e)
is_sound_read_failed (Err sounds.Memory) = false
