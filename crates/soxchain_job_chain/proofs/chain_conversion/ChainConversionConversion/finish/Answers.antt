use Rattle.std.proofs.Common.{◌≡◌, ◌∙◌, ◌<◌, ◌++◌, length, ap, subst, true}
use Rattle.fx_chain_run.specs.Report.{pad}
use Rattle.fx_plan.specs.Planning.{Planning}
use Rattle.soxchain_job_chain.specs.CodedChain.{CodedParts, Finishes}
use Rattle.soxchain_job_chain.specs.JobOutput.{ConversionParts, input_frame}
use Rattle.soxchain_job_chain.proofs.Converting.{finish-writes}
use Rattle.soxchain_job_chain.proofs.Passing.{on_ok-then}
use Rattle.soxchain_job_chain.proofs.chain_conversion.ChainConversionConversion.finish.Goals as goal

pub returns : goal.returns
returns c =
    let old = c.args.self.now in
    let same = c.self.view_is ∙ c.in_ok-write_head.ensures.now in
    let short : length old.pending < input_frame old = subst (λ (v : ConversionParts). length v.pending < input_frame v) same c.self.invariant in
    let coded_is : c.self.inside.chain ≡ old.coded = ap (λ (v : ConversionParts). v.coded) same in
    let finishes = subst (λ (v : CodedParts). Finishes v c.finish.new.self c.write_head.new.output.items c.finish.new.output.items) coded_is c.in_ok-finish.ensures.finishes in
    let kind = ap (λ (p : Planning). p.kind) c.in_ok-finish.ensures.stays.plan ∙ ap (λ (v : CodedParts). v.chain.plan.kind) coded_is in
    record {
      rest = on_ok-then c.pad.result (λ padded. finish-writes old c.finish.new.self c.args.output.now.items c.write_head.new.output.items c.finish.new.output.items c.pad.new.output.items short
          c.in_ok-write_head.ensures.appended finishes (padded ∙ ap (λ k. c.finish.new.output.items ++ pad k true c.finish.new.self.sound_bytes) kind)) c.pad.ensures;
      announced = on_ok-then c.pad.result (λ padded. finishes.announced) c.pad.ensures;
    }
