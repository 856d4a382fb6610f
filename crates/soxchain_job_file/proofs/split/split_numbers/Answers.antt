use Rattle.std.proofs.Common.{arith}
use Rattle.soxchain_job_file.specs.JobBytes.{FitsWord, word_bytes}
use Rattle.soxchain_job_file.proofs.Splitting.{many_lack, word_bytes-injective}
use Rattle.soxchain_job_file.proofs.split.split_numbers.Goals as goal

pub returns-in_default : goal.returns-in_default
returns-in_default c =
    many_lack word_bytes FitsWord word_bytes-injective c.args.bytes.now c.numbers.rest.now c.numbers.counter c.args.count c.numbers.numbers.items (omega arith)
    c.numbers.invariant c.in_default.ensures
