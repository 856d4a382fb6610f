use Rattle.std.proofs.Common.{sym}
use Rattle.soxchain_job_file.proofs.Versions.{numeral_none, numeral_result}
use Rattle.soxchain_job_file.proofs.version.leading_number.Goals as goal

pub returns-in-None : goal.returns-in-None
returns-in-None c = numeral_none c.args.bytes.now c.args.end c.requires.no_digit c.requires.no_sign (sym c.in-None.ensures)

pub returns-in-Some : goal.returns-in-Some
returns-in-Some c =
    numeral_result c.args.bytes.now c.args.end c.requires.no_digit c.requires.no_sign c.in-Some.size c.number_of.result (sym c.in-Some.ensures) c.number_of.ensures
