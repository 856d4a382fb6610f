-- The names that begin with OUT, as they are kept.
use Rattle.std.specs.Prelude.{◌≡◌, string_bytes}
use Rattle.soxchain_job_rules.specs.Names.{JobTexts, own_name}
use Rattle.soxchain_job_rules.specs.declared.own_file.OwnFile.TheVariants.{Out, Part, Checkpoint, NewCheckpoint, Lock}
use Rattle.soxchain_job_rules.specs.declared.names.OutNames.{OutNames}

pub record AreNamesOf (texts : JobTexts) (names : OutNames) : Type 0 where
  pub out : string_bytes names.out ≡ own_name texts Out
  pub part : string_bytes names.part ≡ own_name texts Part
  pub checkpoint : string_bytes names.checkpoint ≡ own_name texts Checkpoint
  pub new_checkpoint : string_bytes names.new_checkpoint ≡ own_name texts NewCheckpoint
  pub lock : string_bytes names.lock ≡ own_name texts Lock
