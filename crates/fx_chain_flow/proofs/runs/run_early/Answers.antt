use Rattle.std.proofs.Common.{rules, ◌≡◌, ◌∙◌, ◌*◌, ◌∷◌, length, drop}
use Rattle.std.proofs.lemmas.List.{length-take-le}
use Rattle.fx_frame_base.specs.Lists.{pieces}
use Rattle.fx_frame_base.specs.Stage.{kind}
use Rattle.fx_frame_base.proofs.PipelineLaws.{PassedWhile-through}
use Rattle.fx_frame_base.proofs.Puts.{pieces-take}
use Rattle.fx_frame_base.proofs.Pieces.{length-pieces, pieces-front}
use Rattle.fx_chain_flow.proofs.Orders.{WentEarly-fits}
use Rattle.fx_chain_flow.proofs.Pipelines.{AllHeld-lined}
use Rattle.fx_chain_flow.proofs.runs.run_early.Goals as goal

pub returns-clause-through : goal.returns-clause-through
returns-clause-through g c =
    let acts = g.S.Stage.acts in
    let all : c.args.stages.now ≡ c.in-Some.first.now ∷ c.in-Some.rest.now = search rules in
    let ready = rw all at c.requires.ready.3 in
    let width : c.args.channels ≡ (kind acts c.in-Some.first.now).inputs = ready.3 in
    let went = c.pass_early.ensures in
    let came = pieces-take c.args.channels c.args.count c.args.input.now c.requires.input in
    let long : length c.pass_early.new.output ≡ c.args.count * c.args.channels = c.pass_early.auto.output ∙ length-take-le (c.args.count * c.args.channels) c.args.output.now c.requires.free in
    let front = pieces-front c.args.channels c.args.count c.pass_early.new.output (drop (c.args.count * c.args.channels) c.args.output.now) long in
    let through = rw (← width, came) at went.through in
    let others = rw (← width) at went.others in
    rw (all) (went.between, through, rw front (PassedWhile-through acts g.S.PassesWhile.passed_while (drop c.args.count (acts.stored c.in-Some.first.now)) went.between _ _ _ others))

pub returns-clause-early : goal.returns-clause-early
returns-clause-early g c =
    let acts = g.S.Stage.acts in
    let all : c.args.stages.now ≡ c.in-Some.first.now ∷ c.in-Some.rest.now = search rules in
    let ready = rw all at c.requires.ready.3 in
    let width : c.args.channels ≡ (kind acts c.in-Some.first.now).inputs = ready.3 in
    let went = c.pass_early.ensures in
    let came = pieces-take c.args.channels c.args.count c.args.input.now c.requires.input in
    let many = length-pieces c.args.channels c.args.count c.args.input.now in
    let long : length c.pass_early.new.output ≡ c.args.count * c.args.channels = c.pass_early.auto.output ∙ length-take-le (c.args.count * c.args.channels) c.args.output.now c.requires.free in
    let front = pieces-front c.args.channels c.args.count c.pass_early.new.output (drop (c.args.count * c.args.channels) c.args.output.now) long in
    let through = rw (← width, came) at went.through in
    let others = rw (← width) at went.others in
    let lined = rw all at c.requires.lined in
    rw (all) (WentEarly-fits acts g.S.PassesWhile.passed_while (pieces c.args.channels c.args.count c.args.input.now) went.between _ _ _ _ _ through (rw many went.stored) (rw (many, front) others) lined.0 (AllHeld-lined acts _ lined.1))
