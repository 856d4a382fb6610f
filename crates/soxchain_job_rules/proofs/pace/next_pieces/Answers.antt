use Rattle.std.proofs.Common.{◌*◌, min, arith}
use Rattle.soxchain_job_rules.specs.Pace.{converting_time, fitting_pieces}
use Rattle.soxchain_job_rules.proofs.Paying.{pays}
use Rattle.soxchain_job_rules.proofs.pace.next_pieces.Goals as goal

pub returns-in-Some-clause-amortized : goal.returns-in-Some-clause-amortized
returns-in-Some-clause-amortized c =
    let last = c.in-Some.round in
    let fitting = min (fitting_pieces last c.args.interval) (4 * last.pieces) in
    rw c.in-Some.is (pays (last.checkpoint * last.pieces) (converting_time last) fitting _ (omega arith) c.pieces_after.ensures)
