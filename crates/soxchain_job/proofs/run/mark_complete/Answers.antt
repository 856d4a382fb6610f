use Rattle.std.proofs.Common.{◌≡◌, ◌∙◌, List, ℕ, Some, ap}
use Rattle.soxchain_job.specs.Checkpoint.{complete_bytes}
use Rattle.soxchain_job.specs.Image.{Image}
use Rattle.soxchain_job.proofs.Ending.{is_ready}
use Rattle.soxchain_job.proofs.Calls.{now_of}
use Rattle.soxchain_job.proofs.Leaving.{after_completion}
use Rattle.soxchain_job.proofs.run.mark_complete.Goals as goal

pub returns-in_err-replace_checkpoint-clause-any_moment : goal.returns-in_err-replace_checkpoint-clause-any_moment
returns-in_err-replace_checkpoint-clause-any_moment g c = λ k.
    let says : c.deref-2.result.now ≡ complete_bytes c.in_ok-summary.summary.items = c.deref-2.ensures.value ∙ c.in_ok-bytes.ensures ∙ ap complete_bytes c.deref.ensures.value in
    after_completion g.C.Conversion.model g.D.Disk.model g.job c.args.conversion.now c.in_ok-summary.summary.items c.deref-2.result.now c.in_ok-summary.ensures.summarised (c.requires.1.1.1.0 k) (c.requires.1.1.1.1 k) says (c.replace_checkpoint.ensures.any_moment k.0)

pub returns-clause-any_moment : goal.returns-clause-any_moment
returns-clause-any_moment g c = λ k.
    let says : c.deref-2.result.now ≡ complete_bytes c.in_ok-summary.summary.items = c.deref-2.ensures.value ∙ c.in_ok-bytes.ensures ∙ ap complete_bytes c.deref.ensures.value in
    after_completion g.C.Conversion.model g.D.Disk.model g.job c.args.conversion.now c.in_ok-summary.summary.items c.deref-2.result.now c.in_ok-summary.ensures.summarised (c.requires.1.1.1.0 k) (c.requires.1.1.1.1 k) says (c.replace_checkpoint.ensures.any_moment k.0)

pub returns-clause-ready : goal.returns-clause-ready
returns-clause-ready g c = λ k.
    let says : c.deref-2.result.now ≡ complete_bytes c.in_ok-summary.summary.items = c.deref-2.ensures.value ∙ c.in_ok-bytes.ensures ∙ ap complete_bytes c.deref.ensures.value in
    let saved = after_completion g.C.Conversion.model g.D.Disk.model g.job c.args.conversion.now c.in_ok-summary.summary.items c.deref-2.result.now c.in_ok-summary.ensures.summarised (c.requires.1.1.1.0 k) (c.requires.1.1.1.1 k) says (c.replace_checkpoint.ensures.any_moment k.0) in
    let seen : (g.D.Disk.model.seen c.replace_checkpoint.new.disk).checkpoint ≡ Some (complete_bytes c.in_ok-summary.summary.items) =
    ap (λ (j : Image). j.checkpoint) (c.in_ok-replace_checkpoint.ensures.saved k.0) ∙ ap (λ (l : List ℕ). Some l) says in
    λ i now. is_ready g.C.Conversion.model g.job c.in_ok-summary.summary.items i (now_of g.D.Disk.model g.met.D.Disk.counts_now saved i now) (c.in_ok-replace_checkpoint.ensures.durable k.0 i now ∙ seen)
