use Rattle.std.proofs.Common.{◌≡◌, ◌<◌, false, length, refl, subst, arith}
use Rattle.soxchain_job_chain.specs.JobOutput.{ConversionParts, input_frame}
use Rattle.soxchain_job_chain.proofs.Converting.{step-passes}
use Rattle.soxchain_job_chain.proofs.Passing.{on_ok-then}
use Rattle.soxchain_job_chain.proofs.chain_conversion.ChainConversionConversion.step.Goals as goal

pub returns-clause-converts : goal.returns-clause-converts
returns-clause-converts c =
    let old = c.args.self.now in
    let short : length old.pending < input_frame old = subst (λ (v : ConversionParts). length v.pending < input_frame v) c.self.view_is c.self.invariant in
    let some : 0 < input_frame old = omega (arith, short) in
    let running = subst (λ (v : ConversionParts). v.coded.chain.flow.ended ≡ false) c.self.view_is (c.if-not-is_hungry.ensures refl) in
    on_ok-then c.pass_sound.result
    (λ passes. step-passes old c.write_head.new.self c.take_sound-sound.new.self c.pass_sound.new.self c.args.piece.now c.take_sound-sound.result.now c.args.output.now.items c.write_head.new.output.items
    c.pass_sound.new.output.items c.in_ok-write_head.ensures.now c.take_sound-sound.ensures.others c.take_sound-sound.ensures.sound c.in_ok-write_head.ensures.appended running some passes) c.pass_sound.ensures.passes
