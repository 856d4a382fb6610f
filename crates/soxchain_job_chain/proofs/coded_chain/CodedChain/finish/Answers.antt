use Rattle.std.proofs.Common.{◌≡◌, ap, refl, subst, arith}
use Rattle.fx_chain_flow.specs.Steps.{IsDone}
use Rattle.fx_chain_stages.specs.Stages.{effect_acts}
use Rattle.soxchain_stream.specs.declared.stream.Stream.{Stream}
use Rattle.soxchain_job_chain.specs.CodedChain.{CodedParts}
use Rattle.soxchain_job_chain.proofs.Passing.{Finishes-from}
use Rattle.soxchain_job_chain.proofs.coded_chain.CodedChain.finish.Goals as goal

pub returns-clause-finishes : goal.returns-clause-finishes
returns-clause-finishes c =
    let ended = (c.if-not-end.ensures.delivered refl).1 in
    let passes = c.in_ok-pass.ensures.passes 0 (omega arith) in
    rw (← c.self.view_is)
    (Finishes-from _ _ c.pass.new.self c.args.output.now.items c.pass.new.output.items (ap (λ (s : Stream). s.chain) ended) refl refl refl passes
    (subst (λ (v : CodedParts). IsDone effect_acts v.chain.flow) c.self-2.view_is c.in-Nothing.ensures) (subst (λ (v : CodedParts). v.frames_out ≡ v.announced) c.self-2.view_is c.if-self.false))
