-- Why a job has no names.
use Rattle.std.specs.Prelude.{⊤}
use Rattle.soxchain_job_rules.specs.Names.{JobTexts, IsFirstTaken}
use Rattle.soxchain_job_rules.specs.declared.names.NamesFault.{NamesFault}
use Rattle.soxchain_job_rules.specs.declared.names.NamesFault.TheVariants.{Memory, RecordIs}

-- want of memory may come at any time
abbrev pub IsNamesFault : JobTexts → NamesFault → Type 0
IsNamesFault texts Memory = ⊤
IsNamesFault texts (RecordIs file) = IsFirstTaken texts file
