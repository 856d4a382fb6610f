-- What holds of the names of a job.
use Rattle.std.specs.Prelude.{◌≡◌, string_bytes}
use Rattle.soxchain_job_rules.specs.Names.{JobTexts, own_name, AreDistinct}
use Rattle.soxchain_job_rules.specs.OutNames.{AreNamesOf}
use Rattle.soxchain_job_rules.specs.declared.own_file.OwnFile.TheVariants.{NewRecord}
use Rattle.soxchain_job_rules.specs.declared.names.JobNames.TheInside.{Inside}

abbrev pub texts_of : Inside → JobTexts
texts_of names = record { out = string_bytes names.of_out.out; record_name = string_bytes names.record_name }

pub record AreJobNames (names : Inside) : Type 0 where
  pub of_out : AreNamesOf (texts_of names) names.of_out
  pub new_record : string_bytes names.new_record ≡ own_name (texts_of names) NewRecord
  pub distinct : AreDistinct (texts_of names)
