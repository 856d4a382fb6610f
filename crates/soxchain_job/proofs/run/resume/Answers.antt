use Rattle.std.proofs.Common.{◌≡◌, ◌∙◌, sym, ℕ, List, None, Some, ap, rules}
use Rattle.soxchain_job.specs.Checkpoint.{IsInProgress, in_progress_bytes}
use Rattle.soxchain_job.specs.Disk.{Durable, LeavesNow}
use Rattle.soxchain_job.specs.Known.{BothKnown}
use Rattle.soxchain_job.specs.declared.disk.FileName.TheVariants as FileNames
use Rattle.soxchain_job.specs.Image.{Image, contents_of}
use Rattle.soxchain_job.specs.Job.{IsGrowing, IsRecoverable}
use Rattle.soxchain_job.proofs.Ending.{Decoded, decoded, in_progress_is, growing_none, growing_some, is_ready, none_is, complete_is, unreached}
use Rattle.soxchain_job.proofs.Calls.{joined}
use Rattle.soxchain_job.proofs.Leaving.{found_recoverable, found_safe, growing_safe}
use Rattle.soxchain_job.proofs.run.resume.Goals as goal

pub returns-in_err-read_checkpoint-clause-any_moment : goal.returns-in_err-read_checkpoint-clause-any_moment
returns-in_err-read_checkpoint-clause-any_moment g c = λ k.
    found_safe g.C.Conversion.model g.D.Disk.model g.job (c.read_checkpoint.ensures.any_moment k.0) (c.requires.1.1.1.1 k)

pub begin-requires : goal.begin-requires
begin-requires g c κs within =
    let seen = g.D.Disk.model.seen c.read_checkpoint.new.disk in
    let checkpoint : g.D.Disk.model.known → seen.checkpoint ≡ None = λ k. rw c.in-None.is at (c.in_ok-read_checkpoint.ensures.found k) in
    let safe : BothKnown g.D.Disk.model g.I.Input.model → LeavesNow g.D.Disk.model c.read_checkpoint.new.disk (IsGrowing g.C.Conversion.model g.job) = λ k i now.
    growing_none g.C.Conversion.model g.job i (found_recoverable g.C.Conversion.model g.D.Disk.model g.job g.met.D.Disk.counts_now (c.read_checkpoint.ensures.any_moment k.0) (c.requires.1.1.1.1 k) i now) (c.in_ok-read_checkpoint.ensures.durable k.0 i now ∙ checkpoint k.0) in
    let new : BothKnown g.D.Disk.model g.I.Input.model → g.job.reached ≡ 0 = λ k. unreached g.C.Conversion.model g.job seen (safe k seen (g.met.D.Disk.shows c.read_checkpoint.new.disk)) (checkpoint k.0) in
    search rules

pub returns-in_err-begin-in-None-clause-any_moment : goal.returns-in_err-begin-in-None-clause-any_moment
returns-in_err-begin-in-None-clause-any_moment g c = λ k.
    joined (found_safe g.C.Conversion.model g.D.Disk.model g.job (c.read_checkpoint.ensures.any_moment k.0) (c.requires.1.1.1.1 k)) (growing_safe g.C.Conversion.model g.D.Disk.model g.job (c.begin.ensures.any_moment k))

pub returns-in-None-clause-any_moment : goal.returns-in-None-clause-any_moment
returns-in-None-clause-any_moment g c = λ k.
    joined (found_safe g.C.Conversion.model g.D.Disk.model g.job (c.read_checkpoint.ensures.any_moment k.0) (c.requires.1.1.1.1 k)) (growing_safe g.C.Conversion.model g.D.Disk.model g.job (c.begin.ensures.any_moment k))

pub returns-in-None-decode-clause-any_moment : goal.returns-in-None-decode-clause-any_moment
returns-in-None-decode-clause-any_moment g c = λ k.
    found_safe g.C.Conversion.model g.D.Disk.model g.job (c.read_checkpoint.ensures.any_moment k.0) (c.requires.1.1.1.1 k)

pub returns-in-None-decode-clause-readable : goal.returns-in-None-decode-clause-readable
returns-in-None-decode-clause-readable g c = λ k.
    let recoverable = found_recoverable g.C.Conversion.model g.D.Disk.model g.job g.met.D.Disk.counts_now (c.read_checkpoint.ensures.any_moment k.0) (c.requires.1.1.1.1 k) in
    let checkpoint : (g.D.Disk.model.seen c.read_checkpoint.new.disk).checkpoint ≡ Some c.in-Some.bytes.items = rw c.in-Some.is at (c.in_ok-read_checkpoint.ensures.found k.0) in
    let read : Decoded c.in-Some.bytes.items c.decode.result =
    decoded g.C.Conversion.model g.job c.in-Some.bytes.items _ c.decode.result (g.D.Disk.model.seen c.read_checkpoint.new.disk) (recoverable (g.D.Disk.model.seen c.read_checkpoint.new.disk) (g.met.D.Disk.shows c.read_checkpoint.new.disk)) checkpoint c.deref.ensures.value c.decode.ensures.in_progress c.decode.ensures.complete in
    absurd (none_is c.in-Some.bytes.items (rw c.in-None-decode.is at read))

pub returns-in-Some-Complete-clause-live : goal.returns-in-Some-Complete-clause-live
returns-in-Some-Complete-clause-live g c = λ k i now.
    let recoverable = found_recoverable g.C.Conversion.model g.D.Disk.model g.job g.met.D.Disk.counts_now (c.read_checkpoint.ensures.any_moment k.0) (c.requires.1.1.1.1 k) in
    let checkpoint : (g.D.Disk.model.seen c.read_checkpoint.new.disk).checkpoint ≡ Some c.in-Some.bytes.items = rw c.in-Some.is at (c.in_ok-read_checkpoint.ensures.found k.0) in
    let read : Decoded c.in-Some.bytes.items c.decode.result =
    decoded g.C.Conversion.model g.job c.in-Some.bytes.items _ c.decode.result (g.D.Disk.model.seen c.read_checkpoint.new.disk) (recoverable (g.D.Disk.model.seen c.read_checkpoint.new.disk) (g.met.D.Disk.shows c.read_checkpoint.new.disk)) checkpoint c.deref.ensures.value c.decode.ensures.in_progress c.decode.ensures.complete in
    let is = complete_is c.in-Some.bytes.items (rw (c.in-Some-Complete.is, c.in-Some-Complete.field-0-is) at read) in
    is_ready g.C.Conversion.model g.job _ i (recoverable i now) (c.in_ok-read_checkpoint.ensures.durable k.0 i now ∙ checkpoint ∙ ap (λ (l : List ℕ). Some l) is)

pub returns-in-Some-Complete-clause-any_moment : goal.returns-in-Some-Complete-clause-any_moment
returns-in-Some-Complete-clause-any_moment g c = λ k.
    found_safe g.C.Conversion.model g.D.Disk.model g.job (c.read_checkpoint.ensures.any_moment k.0) (c.requires.1.1.1.1 k)

pub resume_from-requires : goal.resume_from-requires
resume_from-requires g c κs within =
    let p = c.in-Some-InProgress.progress in
    let seen = g.D.Disk.model.seen c.read_checkpoint.new.disk in
    let recoverable : BothKnown g.D.Disk.model g.I.Input.model → LeavesNow g.D.Disk.model c.read_checkpoint.new.disk (IsRecoverable g.C.Conversion.model g.job) = λ k.
    found_recoverable g.C.Conversion.model g.D.Disk.model g.job g.met.D.Disk.counts_now (c.read_checkpoint.ensures.any_moment k.0) (c.requires.1.1.1.1 k) in
    let says : BothKnown g.D.Disk.model g.I.Input.model → seen.checkpoint ≡ Some (in_progress_bytes p.taken p.written p.frozen.now) = λ k.
    let checkpoint : seen.checkpoint ≡ Some c.in-Some.bytes.items = rw c.in-Some.is at (c.in_ok-read_checkpoint.ensures.found k.0) in
    let read : Decoded c.in-Some.bytes.items c.decode.result =
    decoded g.C.Conversion.model g.job c.in-Some.bytes.items _ c.decode.result seen (recoverable k seen (g.met.D.Disk.shows c.read_checkpoint.new.disk)) checkpoint c.deref.ensures.value c.decode.ensures.in_progress c.decode.ensures.complete in
    checkpoint ∙ ap (λ (l : List ℕ). Some l) (in_progress_is c.in-Some.bytes.items p (rw (c.in-Some-InProgress.is, c.in-Some-InProgress.field-0-is) at read)) in
    let durable : BothKnown g.D.Disk.model g.I.Input.model → Durable FileNames.Checkpoint seen (g.D.Disk.model.may_leave c.read_checkpoint.new.disk) = λ k. c.in_ok-read_checkpoint.ensures.durable k.0 in
    let safe : BothKnown g.D.Disk.model g.I.Input.model → LeavesNow g.D.Disk.model c.read_checkpoint.new.disk (IsGrowing g.C.Conversion.model g.job) = λ k i now.
    growing_some g.C.Conversion.model g.job p.taken p.written p.frozen.now i (recoverable k i now) (durable k i now ∙ says k) in
    search rules

pub returns-in_err-resume_from-in-Some-InProgress-clause-any_moment : goal.returns-in_err-resume_from-in-Some-InProgress-clause-any_moment
returns-in_err-resume_from-in-Some-InProgress-clause-any_moment g c = λ k.
    joined (found_safe g.C.Conversion.model g.D.Disk.model g.job (c.read_checkpoint.ensures.any_moment k.0) (c.requires.1.1.1.1 k)) (growing_safe g.C.Conversion.model g.D.Disk.model g.job (c.resume_from.ensures.any_moment k))

pub returns-clause-any_moment : goal.returns-clause-any_moment
returns-clause-any_moment g c = λ k.
    joined (found_safe g.C.Conversion.model g.D.Disk.model g.job (c.read_checkpoint.ensures.any_moment k.0) (c.requires.1.1.1.1 k))
    (growing_safe g.C.Conversion.model g.D.Disk.model g.job (c.resume_from.ensures.any_moment k))

pub returns-in-None-clause-continues : goal.returns-in-None-clause-continues
returns-in-None-clause-continues g c = λ k.
    let found : (g.D.Disk.model.seen c.read_checkpoint.new.disk).checkpoint ≡ None = rw c.in-None.is at (c.in_ok-read_checkpoint.ensures.found k.0) in
    let none : (g.D.Disk.model.seen c.args.disk.now).checkpoint ≡ None = ap (λ (i : Image). i.checkpoint) (sym (c.read_checkpoint.ensures.seen k.0)) ∙ found in
    λ taken written frozen ft fw e. (let was = none in absurd (cc))

pub returns-in-Some-Complete-clause-continues : goal.returns-in-Some-Complete-clause-continues
returns-in-Some-Complete-clause-continues g c = λ k.
    let checkpoint : (g.D.Disk.model.seen c.read_checkpoint.new.disk).checkpoint ≡ Some c.in-Some.bytes.items = rw c.in-Some.is at (c.in_ok-read_checkpoint.ensures.found k.0) in
    λ taken written frozen ft fw e.
    let bytes : c.in-Some.bytes.items ≡ in_progress_bytes taken written frozen = ap contents_of (sym checkpoint ∙ ap (λ (i : Image). i.checkpoint) (c.read_checkpoint.ensures.seen k.0) ∙ e) in
    let is : IsInProgress taken written frozen c.decode.result = c.decode.ensures.in_progress taken written frozen ft fw (c.deref.ensures.value ∙ bytes) in
    absurd (rw (c.in-Some-Complete.is, c.in-Some-Complete.field-0-is) at is)

pub returns-clause-continues : goal.returns-clause-continues
returns-clause-continues g c = λ k.
    let checkpoint : (g.D.Disk.model.seen c.read_checkpoint.new.disk).checkpoint ≡ Some c.in-Some.bytes.items = rw c.in-Some.is at (c.in_ok-read_checkpoint.ensures.found k.0) in
    λ taken written frozen ft fw e.
    let bytes : c.in-Some.bytes.items ≡ in_progress_bytes taken written frozen = ap contents_of (sym checkpoint ∙ ap (λ (i : Image). i.checkpoint) (c.read_checkpoint.ensures.seen k.0) ∙ e) in
    let is : IsInProgress taken written frozen c.decode.result = c.decode.ensures.in_progress taken written frozen ft fw (c.deref.ensures.value ∙ bytes) in
    let now = rw (c.in-Some-InProgress.is, c.in-Some-InProgress.field-0-is) at is in
    let same = c.in_ok-resume_from-in-Some-InProgress.ensures.taken in
    (same.0 ∙ now.0, same.1 ∙ now.1)
