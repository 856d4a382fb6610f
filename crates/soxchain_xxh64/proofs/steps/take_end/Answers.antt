use Rattle.std.proofs.Common.{arith}
use Rattle.soxchain_xxh64.proofs.Taking.{take_end_four}
use Rattle.soxchain_xxh64.proofs.steps.take_end.Goals as goal

pub returns-in-Some : goal.returns-in-Some
returns-in-Some c =
    let cases = c.in-Some.ensures.cases in
    take_end_four c.args.hash c.take_four.result c.take_bytes.result c.args.bytes.now c.in-Some.four.now c.in-Some.rest.now (omega arith)
    cases.0 cases.1 c.take_four.ensures c.take_bytes.ensures
