use Rattle.soxchain_job.proofs.Calls.{joined}
use Rattle.soxchain_job.proofs.Leaving.{ending_safe, growing_safe, recoverable_safe}
use Rattle.soxchain_job.proofs.run.finish.Goals as goal

pub returns-in_err-write_rest-clause-any_moment : goal.returns-in_err-write_rest-clause-any_moment
returns-in_err-write_rest-clause-any_moment g c = λ k.
    growing_safe g.C.Conversion.model g.D.Disk.model g.job (c.write_rest.ensures.any_moment k)

pub returns-in_err-mark_complete-clause-any_moment : goal.returns-in_err-mark_complete-clause-any_moment
returns-in_err-mark_complete-clause-any_moment g c = λ k.
    joined (growing_safe g.C.Conversion.model g.D.Disk.model g.job (c.write_rest.ensures.any_moment k)) (recoverable_safe g.C.Conversion.model g.D.Disk.model g.job (c.mark_complete.ensures.any_moment k))

pub returns-in_err-publish-clause-any_moment : goal.returns-in_err-publish-clause-any_moment
returns-in_err-publish-clause-any_moment g c = λ k.
    joined (joined (growing_safe g.C.Conversion.model g.D.Disk.model g.job (c.write_rest.ensures.any_moment k)) (recoverable_safe g.C.Conversion.model g.D.Disk.model g.job (c.mark_complete.ensures.any_moment k)))
    (ending_safe g.C.Conversion.model g.D.Disk.model g.job (c.publish.ensures.any_moment k))

pub returns-clause-any_moment : goal.returns-clause-any_moment
returns-clause-any_moment g c = λ k.
    joined (joined (growing_safe g.C.Conversion.model g.D.Disk.model g.job (c.write_rest.ensures.any_moment k)) (recoverable_safe g.C.Conversion.model g.D.Disk.model g.job (c.mark_complete.ensures.any_moment k)))
    (ending_safe g.C.Conversion.model g.D.Disk.model g.job (c.publish.ensures.any_moment k))
