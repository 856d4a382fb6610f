use Rattle.std.proofs.Common.{arith}
use Rattle.soxchain_job_file.proofs.Splitting.{word_found}
use Rattle.soxchain_job_file.proofs.split.split_word.Goals as goal

pub returns : goal.returns
returns c =
    let cases = c.in_ok-word.ensures.cases in
    word_found c.args.bytes.now c.in_ok-word.word.now c.in_ok-word.rest.now c.read_u64.result (omega (arith, cases.2)) c.type_inv.bytes cases.0 cases.1
    c.read_u64.ensures c.read_u64.type_inv
