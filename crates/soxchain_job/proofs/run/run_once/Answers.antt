use Rattle.std.proofs.Common.{◌∙◌, ◌+◌, ◌-◌, ◌≤◌, ap, length, arith, rules}
use Rattle.soxchain_job.specs.Known.{BothKnown}
use Rattle.soxchain_job.specs.Image.{Image}
use Rattle.soxchain_job.specs.Job.{IsGrowing, IsLive}
use Rattle.soxchain_job.proofs.Calls.{joined, now_of}
use Rattle.soxchain_job.proofs.Ending.{reads_rest}
use Rattle.soxchain_job.proofs.Leaving.{growing_safe}
use Rattle.soxchain_job.proofs.run.run_once.Goals as goal

pub returns-in_default-clause-published : goal.returns-in_default-clause-published
returns-in_default-clause-published g c =
    c.publish_confirmed.ensures.published

pub returns-in_default-clause-any_moment : goal.returns-in_default-clause-any_moment
returns-in_default-clause-any_moment g c = λ k.
    joined (c.resume.ensures.any_moment k) (c.publish_confirmed.ensures.any_moment k)

pub convert_rest-requires : goal.convert_rest-requires
convert_rest-requires g c κs within =
    let live : BothKnown g.D.Disk.model g.I.Input.model → IsLive g.C.Conversion.model g.job c.resume.new.conversion c.in-Some.offsets.taken c.in-Some.offsets.written (g.D.Disk.model.seen c.resume.new.disk) = λ k.
    let both = rw c.in-Some.is at (c.in_ok-offsets.ensures.live k) in
    both.0 in
    let safe : BothKnown g.D.Disk.model g.I.Input.model → (i : Image) → g.D.Disk.model.may_leave c.resume.new.disk i → IsGrowing g.C.Conversion.model g.job i = λ k.
    let both = rw c.in-Some.is at (c.in_ok-offsets.ensures.live k) in
    both.1 in
    search rules

pub returns-in_err-convert_rest-clause-any_moment : goal.returns-in_err-convert_rest-clause-any_moment
returns-in_err-convert_rest-clause-any_moment g c = λ k.
    joined (c.resume.ensures.any_moment k) (growing_safe g.C.Conversion.model g.D.Disk.model g.job (c.convert_rest.ensures.any_moment k))

pub finish-requires : goal.finish-requires
finish-requires g c κs within =
    let safe : BothKnown g.D.Disk.model g.I.Input.model → (i : Image) → g.D.Disk.model.may_leave c.convert_rest.new.disk i → IsGrowing g.C.Conversion.model g.job i = λ k.
    now_of g.D.Disk.model g.met.D.Disk.counts_now (c.convert_rest.ensures.any_moment k) in
    search rules

pub returns-in_err-finish-clause-any_moment : goal.returns-in_err-finish-clause-any_moment
returns-in_err-finish-clause-any_moment g c = λ k.
    joined (joined (c.resume.ensures.any_moment k) (growing_safe g.C.Conversion.model g.D.Disk.model g.job (c.convert_rest.ensures.any_moment k))) (c.finish.ensures.any_moment k)

pub returns-clause-any_moment : goal.returns-clause-any_moment
returns-clause-any_moment g c = λ k.
    joined (joined (c.resume.ensures.any_moment k) (growing_safe g.C.Conversion.model g.D.Disk.model g.job (c.convert_rest.ensures.any_moment k))) (c.finish.ensures.any_moment k)

pub returns-in_err-convert_rest-clause-delivered : goal.returns-in_err-convert_rest-clause-delivered
returns-in_err-convert_rest-clause-delivered g c = λ k.
    let continues = rw c.in-Some.is at (c.in_ok-offsets.ensures.continues k) in
    let live = rw c.in-Some.is at (c.in_ok-offsets.ensures.live k) in
    reads_rest _ c.in-Some.offsets _ _ (g.met.I.Input.sized k.1 c.args.input.now ∙ ap length (c.requires.1.1.1.1.1.0 k.1)) live.0.within continues c.convert_rest.ensures.reads.delivered

pub returns-in_err-finish-clause-delivered : goal.returns-in_err-finish-clause-delivered
returns-in_err-finish-clause-delivered g c = λ k.
    let continues = rw c.in-Some.is at (c.in_ok-offsets.ensures.continues k) in
    let live = rw c.in-Some.is at (c.in_ok-offsets.ensures.live k) in
    let bound : g.I.Input.model.delivered c.finish.new.input ≤ g.I.Input.model.delivered c.args.input.now + (g.I.Input.model.size c.args.input.now - c.in-Some.offsets.taken) = omega (arith, c.convert_rest.ensures.reads.delivered, c.finish.ensures.reads.bound.delivered) in
    reads_rest _ c.in-Some.offsets _ _ (g.met.I.Input.sized k.1 c.args.input.now ∙ ap length (c.requires.1.1.1.1.1.0 k.1)) live.0.within continues bound

pub returns-clause-delivered : goal.returns-clause-delivered
returns-clause-delivered g c = λ k.
    let continues = rw c.in-Some.is at (c.in_ok-offsets.ensures.continues k) in
    let live = rw c.in-Some.is at (c.in_ok-offsets.ensures.live k) in
    let bound : g.I.Input.model.delivered c.finish.new.input ≤ g.I.Input.model.delivered c.args.input.now + (g.I.Input.model.size c.args.input.now - c.in-Some.offsets.taken) = omega (arith, c.convert_rest.ensures.reads.delivered, c.finish.ensures.reads.bound.delivered) in
    reads_rest _ c.in-Some.offsets _ _ (g.met.I.Input.sized k.1 c.args.input.now ∙ ap length (c.requires.1.1.1.1.1.0 k.1)) live.0.within continues bound
