use Rattle.std.proofs.Common.{sym}
use Rattle.soxchain_job_rules.proofs.Slash.{parted, whole}
use Rattle.soxchain_job_rules.proofs.names.base_of.Goals as goal

pub returns-in-Some : goal.returns-in-Some
returns-in-Some c = (parted _ _ _ c.in-Some.ensures.cases).base

pub returns-in-None : goal.returns-in-None
returns-in-None c = sym (whole _ c.in-None.ensures.cases).base
