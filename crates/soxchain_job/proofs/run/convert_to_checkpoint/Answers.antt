use Rattle.std.proofs.Common.{rules}
use Rattle.soxchain_job.specs.Image.{Image}
use Rattle.soxchain_job.specs.Known.{BothKnown}
use Rattle.soxchain_job.specs.Job.{IsGrowing}
use Rattle.soxchain_job.proofs.Calls.{joined, now_of}
use Rattle.soxchain_job.proofs.run.convert_to_checkpoint.Goals as goal

pub write_checkpoint-requires : goal.write_checkpoint-requires
write_checkpoint-requires g c κs within =
    let here : BothKnown g.D.Disk.model g.I.Input.model → (i : Image) → g.D.Disk.model.may_leave c.convert_pieces.new.disk i → IsGrowing g.C.Conversion.model g.job i = λ k.
    now_of g.D.Disk.model g.met.D.Disk.counts_now (c.convert_pieces.ensures.any_moment k) in
    search rules

pub returns-in_err-write_checkpoint-clause-any_moment : goal.returns-in_err-write_checkpoint-clause-any_moment
returns-in_err-write_checkpoint-clause-any_moment g c = λ k.
    joined (c.convert_pieces.ensures.any_moment k) (c.write_checkpoint.ensures.any_moment k)

pub returns-clause-any_moment : goal.returns-clause-any_moment
returns-clause-any_moment g c = λ k.
    joined (c.convert_pieces.ensures.any_moment k) (c.write_checkpoint.ensures.any_moment k)
