use Rattle.std.proofs.Common.{rules, ◌≡◌, take, arith, slice_index_or}
use Rattle.std.proofs.lemmas.Grind.{common_steps}
use Rattle.fx_chain_flow.proofs.Thawing.{IsInlet-of}
use Rattle.fx_chain_flow.proofs.flow.Flow.thaw.Goals as goal

pub returns-in_err-frame-clause-thawed : goal.returns-in_err-frame-clause-thawed
returns-in_err-frame-clause-thawed g c = λ f sound all made channels frozen.
    let state_counters-is : c.in-Some.state_counters.now ≡ take 8 c.args.numbers.now = search rules in
    let first-is : c.split_at.result.0.now ≡ take (slice_index_or c.in-Some.state_counters.now 4 0) c.args.frames.now = search rules in
    absurd (c.in_err-frame.ensures.refused.1 _ (IsInlet-of g.S.Stage.acts f c.args.channels c.args.frames.now c.split_at.result.0.now c.args.numbers.now c.in-Some.state_counters.now sound channels frozen state_counters-is first-is))

pub wet_end-wet-requires-clause-dry : goal.wet_end-wet-requires-clause-dry
wet_end-wet-requires-clause-dry g c = grind (arith, common_steps)
