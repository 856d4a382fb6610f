use Rattle.std.proofs.Common.{◌-◌, ◌^◌}
use Rattle.soxchain_job_chain.specs.CodedChain.{PassesFront}
use Rattle.soxchain_job_chain.proofs.coded_chain.CodedChain.pass.Given as goal

abbrev pub invariant-turns : goal.invariant-turns
invariant-turns l = PassesFront l.fn.self l.self l.fn.input l.rest l.fn.output.items l.output.items

abbrev pub decreases-turns : goal.decreases-turns
decreases-turns l = 2 ^ 56 - l.self.frames_out
