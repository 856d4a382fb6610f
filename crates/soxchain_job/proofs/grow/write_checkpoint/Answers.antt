use Rattle.std.proofs.Common.{arith}
use Rattle.soxchain_job.proofs.Leaving.{after_checkpoint}
use Rattle.soxchain_job.proofs.grow.write_checkpoint.Goals as goal

pub returns-in_err-replace_checkpoint-clause-any_moment : goal.returns-in_err-replace_checkpoint-clause-any_moment
returns-in_err-replace_checkpoint-clause-any_moment g c = λ k.
    after_checkpoint g.C.Conversion.model g.D.Disk.model g.job c.args.disk.now c.deref.result.now g.met.D.Disk.only_now (c.requires.1.1.1.0 k) (c.requires.1.1.1.1 k) (omega arith) (omega arith)
    c.in_ok-bytes.ensures c.deref.ensures.value (c.sync.ensures.time k.0) (c.sync.ensures.crash k.0) (c.in_ok-sync.ensures.durable k.0) (c.replace_checkpoint.ensures.any_moment k.0)

pub returns-clause-any_moment : goal.returns-clause-any_moment
returns-clause-any_moment g c = λ k.
    after_checkpoint g.C.Conversion.model g.D.Disk.model g.job c.args.disk.now c.deref.result.now g.met.D.Disk.only_now (c.requires.1.1.1.0 k) (c.requires.1.1.1.1 k) (omega arith) (omega arith)
    c.in_ok-bytes.ensures c.deref.ensures.value (c.sync.ensures.time k.0) (c.sync.ensures.crash k.0) (c.in_ok-sync.ensures.durable k.0) (c.replace_checkpoint.ensures.any_moment k.0)
