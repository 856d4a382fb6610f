use Rattle.std.proofs.Common.{sym}
use Rattle.soxchain_job_rules.proofs.Slash.{parted, whole, folder_text-whole, folder_text-empty, folder_text-parted}
use Rattle.soxchain_job_rules.proofs.names.folder_of.Goals as goal

pub returns-in-Some : goal.returns-in-Some
returns-in-Some c = folder_text-empty _ _ _ (parted _ _ _ c.in-Some.ensures.cases) (sym c.if-is_empty.ensures)

pub returns-in-Some-2 : goal.returns-in-Some-2
returns-in-Some-2 c = folder_text-parted _ _ _ (parted _ _ _ c.in-Some.ensures.cases) (sym c.if-is_empty.ensures)

pub returns-in-None : goal.returns-in-None
returns-in-None c = folder_text-whole _ (whole _ c.in-None.ensures.cases)
