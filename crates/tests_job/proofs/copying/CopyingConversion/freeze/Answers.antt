use Rattle.std.proofs.Common.{[], refl, sym}
use Rattle.std.proofs.lemmas.List.{append-nil}
use Rattle.tests_job.proofs.copying.CopyingConversion.freeze.Goals as goal

pub returns : goal.returns
returns c = record { frozen = record { frozen = []; freezes = refl; appended = sym (append-nil c.args._bytes.now.items) } }
