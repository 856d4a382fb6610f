use Rattle.std.proofs.Common.{◌≡◌, ◌∙◌, ◌++◌, ◌-◌, ap, arith, drop, length, take}
use Rattle.soxchain_job_file.proofs.Splitting.{checkpoint_kept}
use Rattle.soxchain_job_file.proofs.job_file.keep_checkpoint.Goals as goal

pub returns : goal.returns
returns c = λ job same whole.
    let end = c.saturating_sub-end.result in
    let start = c.saturating_sub-start.result in
    let at : end ≡ length c.args.bytes.now.items - 8 = omega (arith, c.args.bytes.now.ok.0) in
    c.truncate-2.ensures.items ∙ ap (take c.args.size) c.rotate_left.ensures.items
    ∙ ap (λ xs. take c.args.size (drop start xs ++ take start xs)) c.truncate.ensures.items
    ∙ checkpoint_kept c.args.bytes.now.items job c.args.size end start same whole at c.saturating_sub-start.ensures
