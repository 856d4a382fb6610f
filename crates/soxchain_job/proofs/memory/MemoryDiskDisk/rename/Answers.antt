use Rattle.std.proofs.Common.{refl}
use Rattle.soxchain_job.proofs.MemoryHistory.{elapses_to}
use Rattle.soxchain_job.proofs.memory.MemoryDiskDisk.rename.Goals as goal

pub returns-clause-time : goal.returns-clause-time
returns-clause-time c = λ k.
    let history = c.in_ok-replace.ensures.history in
    elapses_to c.args.self.now _ history.0 history.1 history.2 refl
