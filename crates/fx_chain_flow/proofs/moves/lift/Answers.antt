use Rattle.std.proofs.Common.{rules, ◌≡◌, ◌-◌, None, Some}
use Rattle.fx_chain_flow.specs.StageCall.{GaveWithin, MayGive}
use Rattle.fx_chain_flow.proofs.HandOvers.{CanHandOver-lt, CanHandOver-wet, GaveAt-set, CanMove-give, Lifted-give}
use Rattle.fx_chain_flow.proofs.Orders.{AllHeld-set, AllLined-given, given-order, inlet-order}
use Rattle.fx_chain_flow.proofs.Places.{At-from, ChangedAt-placed}
use Rattle.fx_chain_flow.proofs.moves.lift.Goals as goal

pub returns-then-place-eq0-clause-order : goal.returns-then-place-eq0-clause-order
returns-then-place-eq0-clause-order g c =
    let full : c.args.inlet.now ≡ Some c.in-Some.frame = search rules in
    let none : c.take.new.self ≡ None = search rules in
    λ f. rw none (inlet-order g.S.Stage.acts g.S.StageCalls.handed g.S.PassesWhile.passed_while (record f { stages = c.args.stages.now; inlet = c.args.inlet.now }) c.args.place c.in-Some.frame c.if-place-eq0.true full c.requires.held)

pub give_at-requires : goal.give_at-requires
give_at-requires g c =
    let can = CanMove-give g.S.Stage.acts c.args.place c.args.inlet.now c.args.stages.now c.if-place-eq0.false c.requires.may in
    At-from (MayGive g.S.Stage.acts) (c.args.place - 1) c.args.stages.now (CanHandOver-lt g.S.Stage.acts _ _ can) (λ d. CanHandOver-wet g.S.Stage.acts (c.args.place - 1) c.args.stages.now d can)

pub returns-clause-lifted : goal.returns-clause-lifted
returns-clause-lifted g c =
    let p = ChangedAt-placed (GaveWithin g.S.Stage.acts c.give_at.result) (c.args.place - 1) c.args.stages.now c.give_at.new.stages c.give_at.ensures.gave in
    rw p.put (Lifted-give g.S.Stage.acts c.args.place c.args.inlet.now c.args.stages.now _ c.give_at.result c.if-place-eq0.false (GaveAt-set g.S.Stage.acts (c.args.place - 1) c.args.stages.now p.after p.before c.give_at.result p.inside p.changed.0))

pub returns-clause-held : goal.returns-clause-held
returns-clause-held g c =
    let p = ChangedAt-placed (GaveWithin g.S.Stage.acts c.give_at.result) (c.args.place - 1) c.args.stages.now c.give_at.new.stages c.give_at.ensures.gave in
    rw p.put (AllHeld-set g.S.Stage.acts (c.args.place - 1) c.args.stages.now p.after p.changed.1 c.requires.held)

pub returns-clause-lined : goal.returns-clause-lined
returns-clause-lined g c =
    let p = ChangedAt-placed (GaveWithin g.S.Stage.acts c.give_at.result) (c.args.place - 1) c.args.stages.now c.give_at.new.stages c.give_at.ensures.gave in
    rw p.put (AllLined-given g.S.Stage.acts c.args.place c.args.stages.now p.after c.if-place-eq0.false c.requires.lined)

pub returns-clause-order : goal.returns-clause-order
returns-clause-order g c = λ f.
    let p = ChangedAt-placed (GaveWithin g.S.Stage.acts c.give_at.result) (c.args.place - 1) c.args.stages.now c.give_at.new.stages c.give_at.ensures.gave in
    let held = rw (← p.put) at (AllHeld-set g.S.Stage.acts (c.args.place - 1) c.args.stages.now p.after p.changed.1 c.requires.held) in
    let lined = rw (← p.put) at (AllLined-given g.S.Stage.acts c.args.place c.args.stages.now p.after c.if-place-eq0.false c.requires.lined) in
    given-order g.S.Stage.acts g.S.StageCalls.handed g.S.PassesWhile.passed_while (record f { stages = c.args.stages.now; inlet = c.args.inlet.now }) c.args.place c.give_at.result c.give_at.new.stages c.if-place-eq0.false c.give_at.ensures.handed held lined
