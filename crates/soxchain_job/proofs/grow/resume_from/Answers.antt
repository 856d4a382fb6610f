use Rattle.std.proofs.Common.{◌≡◌, ◌∙◌, ℕ, List, ap, subst, sym, arith}
use Rattle.soxchain_job.specs.Checkpoint.{in_progress_bytes}
use Rattle.soxchain_job.specs.Image.{Image, contents_of}
use Rattle.soxchain_job.specs.Job.{IsConsistent}
use Rattle.soxchain_job.proofs.Growing.{known, same_checkpoint, resumed}
use Rattle.soxchain_job.proofs.Leaving.{after_truncate}
use Rattle.soxchain_job.proofs.grow.resume_from.Goals as goal

pub returns-in_err-truncate-clause-any_moment : goal.returns-in_err-truncate-clause-any_moment
returns-in_err-truncate-clause-any_moment g c = λ k.
    after_truncate g.C.Conversion.model g.D.Disk.model g.job c.args.progress.now.taken c.args.progress.now.written c.args.progress.now.frozen.now g.met.D.Disk.only_now (omega arith) (omega arith)
    (c.requires.1.1.1.1.1.1 k) (c.requires.1.1.1.1.0 k) (c.requires.1.1.1.1.1.0 k) (c.truncate.ensures.time k.0) (c.truncate.ensures.crash k.0)

pub returns-clause-live : goal.returns-clause-live
returns-clause-live g c = λ k.
    let seen = g.D.Disk.model.seen c.args.disk.now in
    let was : IsConsistent g.C.Conversion.model g.job (in_progress_bytes c.args.progress.now.taken c.args.progress.now.written c.args.progress.now.frozen.now) (contents_of seen.part) =
    known g.C.Conversion.model g.job seen.checkpoint (in_progress_bytes c.args.progress.now.taken c.args.progress.now.written c.args.progress.now.frozen.now) (contents_of seen.part) (c.requires.1.1.1.1.0 k) (c.requires.1.1.1.1.1.1 k seen (g.met.D.Disk.shows c.args.disk.now)).checkpoint in
    let same = same_checkpoint c.args.progress.now.taken c.args.progress.now.written c.args.progress.now.frozen.now was.taken was.written was.frozen (omega arith) (omega arith) was.taken_fits was.written_fits was.bytes in
    let thawed : c.thaw.new.self ≡ was.conversion = c.in_ok-thaw.ensures.thawed was.conversion (was.same_plan ∙ ap g.C.Conversion.model.plan (sym c.requires.1.1.1.0)) (subst (λ (l : List ℕ). g.C.Conversion.model.frozen_as was.conversion l) (sym same.frozen_same) was.freezes) in
    resumed g.C.Conversion.model g.job c.args.progress.now.taken c.args.progress.now.written c.args.progress.now.frozen.now (contents_of seen.part) (g.D.Disk.model.seen c.truncate.new.self) c.thaw.new.self was (omega arith) (omega arith) thawed
    (ap (λ (i : Image). i.part) (c.in_ok-truncate.ensures.truncated k.0 (omega (arith, was.present, same.written_same))))

pub returns-clause-any_moment : goal.returns-clause-any_moment
returns-clause-any_moment g c = λ k.
    after_truncate g.C.Conversion.model g.D.Disk.model g.job c.args.progress.now.taken c.args.progress.now.written c.args.progress.now.frozen.now g.met.D.Disk.only_now (omega arith) (omega arith)
    (c.requires.1.1.1.1.1.1 k) (c.requires.1.1.1.1.0 k) (c.requires.1.1.1.1.1.0 k) (c.truncate.ensures.time k.0) (c.truncate.ensures.crash k.0)
