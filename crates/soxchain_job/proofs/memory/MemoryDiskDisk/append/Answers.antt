use Rattle.std.proofs.Common.{◌≡◌, ◌∙◌, ◌++◌, ℕ, List, Some, ap, refl, rules}
use Rattle.soxchain_job.specs.Disk.{Appended}
use Rattle.soxchain_job.specs.Image.{bytes_at, put}
use Rattle.soxchain_job.specs.History.{image_of}
use Rattle.soxchain_job.proofs.MemoryHistory.{elapses_to, put_appended, same_follows, same_appended}
use Rattle.soxchain_job.proofs.memory.MemoryDiskDisk.append.Goals as goal

pub returns-clause-time : goal.returns-clause-time
returns-clause-time c = λ k.
    let history = c.in_ok-replace.ensures.history in
    elapses_to c.args.self.now _ history.0 history.1 history.2 refl

pub returns-in_err-replace-clause-crash : goal.returns-in_err-replace-clause-crash
returns-in_err-replace-clause-crash c = λ k i now.
    same_follows (Appended c.args.name) (same_appended c.args.name) (image_of c.args.self.now.files) i (now ∙ c.in_err-replace.ensures.err)

pub returns-clause-crash : goal.returns-clause-crash
returns-clause-crash c =
    let items : c.extend_from_slice.new.self.items ≡ bytes_at c.args.name (image_of c.args.self.now.files) ++ c.args.bytes.now = search rules in
    λ k i now. (
      image_of c.args.self.now.files,
      refl,
      put_appended c.args.name c.args.bytes.now (image_of c.args.self.now.files) i
          (now ∙ c.in_ok-replace.ensures.ok ∙ c.in_ok-next.ensures ∙ ap (λ (l : List ℕ). put c.args.name (Some l) (image_of c.args.self.now.files)) items),
    )
