use Rattle.std.proofs.lemmas.Str.{IsUtf8-from_ascii}
use Rattle.soxchain_job_file.proofs.Versions.{numeral_ascii}
use Rattle.soxchain_job_file.proofs.version.number_of.Goals as goal

pub returns-in_default : goal.returns-in_default
returns-in_default c = λ number fits numeral. c.in_default.ensures.cases.0 (IsUtf8-from_ascii c.args.digits.now (numeral_ascii c.args.digits.now number numeral))
