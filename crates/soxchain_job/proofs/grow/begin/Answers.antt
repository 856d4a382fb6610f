use Rattle.soxchain_job.proofs.Leaving.{after_begin, after_first_checkpoint}
use Rattle.soxchain_job.proofs.grow.begin.Goals as goal

pub returns-in_err-replace_checkpoint-clause-any_moment : goal.returns-in_err-replace_checkpoint-clause-any_moment
returns-in_err-replace_checkpoint-clause-any_moment g c = λ k.
    after_first_checkpoint g.C.Conversion.model g.D.Disk.model g.job c.deref.result.now c.requires.1.1.1.0 (c.requires.1.1.1.1.0 k) (c.requires.1.1.1.1.1 k) c.in_ok-bytes.ensures c.deref.ensures.value (c.replace_checkpoint.ensures.any_moment k.0)

pub returns-in_err-truncate-clause-any_moment : goal.returns-in_err-truncate-clause-any_moment
returns-in_err-truncate-clause-any_moment g c = λ k.
    after_begin g.C.Conversion.model g.D.Disk.model g.job c.deref.result.now g.met.D.Disk.counts_now
    (after_first_checkpoint g.C.Conversion.model g.D.Disk.model g.job c.deref.result.now c.requires.1.1.1.0 (c.requires.1.1.1.1.0 k) (c.requires.1.1.1.1.1 k) c.in_ok-bytes.ensures c.deref.ensures.value (c.replace_checkpoint.ensures.any_moment k.0))
    c.in_ok-bytes.ensures c.deref.ensures.value (c.in_ok-replace_checkpoint.ensures.saved k.0) (c.in_ok-replace_checkpoint.ensures.durable k.0) (c.truncate.ensures.time k.0) (c.truncate.ensures.crash k.0)

pub returns-clause-any_moment : goal.returns-clause-any_moment
returns-clause-any_moment g c = λ k.
    after_begin g.C.Conversion.model g.D.Disk.model g.job c.deref.result.now g.met.D.Disk.counts_now
    (after_first_checkpoint g.C.Conversion.model g.D.Disk.model g.job c.deref.result.now c.requires.1.1.1.0 (c.requires.1.1.1.1.0 k) (c.requires.1.1.1.1.1 k) c.in_ok-bytes.ensures c.deref.ensures.value (c.replace_checkpoint.ensures.any_moment k.0))
    c.in_ok-bytes.ensures c.deref.ensures.value (c.in_ok-replace_checkpoint.ensures.saved k.0) (c.in_ok-replace_checkpoint.ensures.durable k.0) (c.truncate.ensures.time k.0) (c.truncate.ensures.crash k.0)
