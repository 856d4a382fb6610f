use Rattle.std.proofs.Common.{◌-◌, ◌≤◌}
use Rattle.fx_sound.specs.Container.{first_frames}
use Rattle.soxchain_job_chain.specs.CodedChain.{Passes}
use Rattle.soxchain_job_chain.proofs.coded_chain.CodedChain.feed.Given as goal

abbrev pub invariant-blocks-2 : goal.invariant-blocks-2
invariant-blocks-2 l = record {
  within : l.done ≤ l.frames;
  passes : Passes l.fn.self l.self (first_frames l.fn.self.chain.plan.head.coding l.fn.self.chain.plan.head.channels l.done l.bytes) l.fn.output.items l.output.items;
}

abbrev pub decreases-blocks-2 : goal.decreases-blocks-2
decreases-blocks-2 l = l.frames - l.done
