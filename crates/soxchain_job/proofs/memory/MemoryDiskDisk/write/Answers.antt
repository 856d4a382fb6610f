use Rattle.std.proofs.Common.{◌∙◌, refl}
use Rattle.soxchain_job.specs.History.{image_of}
use Rattle.soxchain_job.proofs.MemoryHistory.{elapses_to, put_changed}
use Rattle.soxchain_job.proofs.memory.MemoryDiskDisk.write.Goals as goal

pub returns-clause-time : goal.returns-clause-time
returns-clause-time c = λ k.
    let history = c.in_ok-replace.ensures.history in
    elapses_to c.args.self.now _ history.0 history.1 history.2 refl

pub returns-clause-crash : goal.returns-clause-crash
returns-clause-crash c = λ k i now. (image_of c.args.self.now.files, refl, put_changed c.args.name _ (image_of c.args.self.now.files) i (now ∙ c.in_ok-replace.ensures.ok ∙ c.in_ok-next.ensures))
