use Rattle.std.proofs.Common.{◌≡◌, ◌∙◌, ℕ, List, Some, ap, refl, rules, take}
use Rattle.soxchain_job.specs.Disk.{Truncated}
use Rattle.soxchain_job.specs.Image.{bytes_at, put}
use Rattle.soxchain_job.specs.History.{image_of}
use Rattle.soxchain_job.proofs.MemoryHistory.{elapses_to, put_truncated, same_follows, same_truncated}
use Rattle.soxchain_job.proofs.memory.MemoryDiskDisk.truncate.Goals as goal

pub returns-clause-time : goal.returns-clause-time
returns-clause-time c = λ k.
    let history = c.in_ok-replace.ensures.history in
    elapses_to c.args.self.now _ history.0 history.1 history.2 refl

pub returns-in_err-replace-clause-crash : goal.returns-in_err-replace-clause-crash
returns-in_err-replace-clause-crash c = λ k i now.
    same_follows (Truncated c.args.name c.args.len) (same_truncated c.args.name c.args.len) (image_of c.args.self.now.files) i (now ∙ c.in_err-replace.ensures.err)

pub returns-clause-crash : goal.returns-clause-crash
returns-clause-crash c =
    let items : c.truncate.new.self.items ≡ take c.args.len (bytes_at c.args.name (image_of c.args.self.now.files)) = search rules in
    λ k i now. (
      image_of c.args.self.now.files,
      refl,
      put_truncated c.args.name c.args.len (image_of c.args.self.now.files) i
          (now ∙ c.in_ok-replace.ensures.ok ∙ c.in_ok-next.ensures ∙ ap (λ (l : List ℕ). put c.args.name (Some l) (image_of c.args.self.now.files)) items),
    )

pub returns-in_err-front-clause-crash : goal.returns-in_err-front-clause-crash
returns-in_err-front-clause-crash c = λ k i now.
    same_follows (Truncated c.args.name c.args.len) (same_truncated c.args.name c.args.len) (image_of c.args.self.now.files) i now

pub returns-in_err-next-clause-crash : goal.returns-in_err-next-clause-crash
returns-in_err-next-clause-crash c = λ k i now.
    same_follows (Truncated c.args.name c.args.len) (same_truncated c.args.name c.args.len) (image_of c.args.self.now.files) i now
