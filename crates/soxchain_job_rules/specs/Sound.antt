-- What must be so before OUT gets its name.
use Rattle.std.specs.Prelude.{◌≡◌}
use Rattle.soxchain_job_rules.specs.declared.sound.InputState.{InputState}

-- the file, its size and the time of its last change of bytes are the same
pub record IsUnmodified (before after : InputState) : Type 0 where
  pub file : after.file ≡ before.file
  pub size : after.size ≡ before.size
  pub modified : after.modified ≡ before.modified
