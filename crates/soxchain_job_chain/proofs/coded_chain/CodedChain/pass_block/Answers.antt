use Rattle.std.proofs.Common.{◌≡◌, ◌∙◌, ◌*◌, ℕ, List, ap, subst, sym, arith}
use Rattle.std.proofs.lemmas.List.{length-take-le}
use Rattle.fx_frame_base.specs.Coding.{width_of}
use Rattle.fx_frame_base.specs.Frame.{Samples}
use Rattle.fx_frame_base.specs.Lists.{pieces}
use Rattle.fx_plan.specs.Planning.{Planning}
use Rattle.fx_sound.specs.Container.{first_frames}
use Rattle.fx_sound.specs.declared.head.Head.{Head}
use Rattle.soxchain_job_chain.specs.CodedChain.{CodedParts, Passes}
use Rattle.soxchain_job_chain.proofs.Passing.{on_ok-then}
use Rattle.soxchain_job_chain.proofs.coded_chain.CodedChain.pass_block.Goals as goal

pub decode_into-requires : goal.decode_into-requires
decode_into-requires c =
    let head : c.head-head.result ≡ c.args.self.now.chain.plan.head = c.head-head.ensures.value ∙ ap (λ (p : Planning). p.head) (sym c.self.inside.stream.same) ∙ ap (λ (v : CodedParts). v.chain.plan.head) c.self.view_is in
    let channels = ap (λ (h : Head). h.channels) head in
    let width = ap (λ (h : Head). width_of h.coding) head in
    let count : c.args.frames * c.head-head.result.channels ≡ c.args.frames * c.args.self.now.chain.plan.head.channels = ap (λ n. c.args.frames * n) channels in
    let long = length-take-le (c.args.frames * c.head-head.result.channels) c.args.input.now (omega (arith, count, c.requires.maximum, c.requires.input)) in
    rw (long, count, width) (c.requires.bytes ∙ omega arith)

pub returns-clause-passes : goal.returns-clause-passes
returns-clause-passes c =
    let head : c.head-head.result ≡ c.args.self.now.chain.plan.head = c.head-head.ensures.value ∙ ap (λ (p : Planning). p.head) (sym c.self.inside.stream.same) ∙ ap (λ (v : CodedParts). v.chain.plan.head) c.self.view_is in
    let channels : ℕ = c.args.self.now.chain.plan.head.channels in
    let count : c.args.frames * c.head-head.result.channels ≡ c.args.frames * channels = ap (λ (h : Head). c.args.frames * h.channels) head in
    let long = length-take-le (c.args.frames * c.head-head.result.channels) c.args.input.now (omega (arith, count, c.requires.maximum, c.requires.input)) ∙ count in
    let frames : pieces channels c.args.frames c.decode_into.new.samples ≡ first_frames c.args.self.now.chain.plan.head.coding channels c.args.frames c.args.bytes.now =
    c.decode_into.ensures.frames channels c.args.frames long ∙ ap (λ (h : Head). first_frames h.coding channels c.args.frames c.args.bytes.now) head in
    on_ok-then c.pass.result
    (λ passes. subst (λ (l : List Samples). Passes c.args.self.now c.pass.new.self l c.args.output.now.items c.pass.new.output.items) frames (passes c.args.frames (c.decode_into.auto.samples ∙ long)))
    c.pass.ensures.passes
