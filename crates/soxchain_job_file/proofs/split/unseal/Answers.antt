use Rattle.std.proofs.Common.{arith}
use Rattle.soxchain_job_file.proofs.Splitting.{seal_short, seal_found, seal_other}
use Rattle.soxchain_job_file.proofs.split.unseal.Goals as goal

pub returns-in_err-front : goal.returns-in_err-front
returns-in_err-front c = rw c.from_residual.ensures (seal_short c.args.bytes.now c.in_err-front.ensures.cases)

pub returns-then-read_u64-xxh64 : goal.returns-then-read_u64-xxh64
returns-then-read_u64-xxh64 c =
    let cases = c.in_ok-front.ensures.cases in
    seal_found c.args.bytes.now c.in_ok-front.front.now c.in_ok-front.hash.now cases.0 cases.1 c.read_u64.result c.read_u64.ensures
    (omega (arith, cases.2)) c.type_inv.bytes (cc)

pub returns-else-read_u64-xxh64 : goal.returns-else-read_u64-xxh64
returns-else-read_u64-xxh64 c =
    let cases = c.in_ok-front.ensures.cases in
    seal_other c.args.bytes.now c.in_ok-front.front.now c.in_ok-front.hash.now cases.0 cases.1 c.read_u64.result c.read_u64.ensures
    c.xxh64.result c.xxh64.ensures c.xxh64.type_inv c.if-read_u64-xxh64.false
