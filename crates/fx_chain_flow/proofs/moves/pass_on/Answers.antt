use Rattle.fx_chain_flow.specs.StageCall.{EndedWithin, MayEnd}
use Rattle.fx_chain_flow.proofs.HandOvers.{IsFirstOpen-lt, IsFirstOpen-open, AllDetermined-at, EndPassed-at}
use Rattle.fx_chain_flow.proofs.Orders.{AllHeld-set, end-order}
use Rattle.fx_chain_flow.proofs.Places.{At-from, ChangedAt-placed}
use Rattle.fx_chain_flow.proofs.moves.pass_on.Goals as goal

pub end_at-requires : goal.end_at-requires
end_at-requires g c =
    let first = c.in-Some.ensures in
    let lt = IsFirstOpen-lt g.S.Stage.acts _ c.args.stages.now first in
    At-from (MayEnd g.S.Stage.acts) _ c.args.stages.now lt (λ d. (AllDetermined-at g.S.Stage.acts _ c.args.stages.now d lt c.requires.dry, IsFirstOpen-open g.S.Stage.acts _ c.args.stages.now d first))

pub returns-clause-passed : goal.returns-clause-passed
returns-clause-passed g c =
    let p = ChangedAt-placed (EndedWithin g.S.Stage.acts) c.in-Some.place c.args.stages.now c.end_at.new.stages c.end_at.ensures.ended in
    (c.in-Some.place, c.in-Some.ensures, rw p.put (EndPassed-at g.S.Stage.acts c.in-Some.place c.args.stages.now p.after p.before p.inside p.changed.0))

pub returns-clause-held : goal.returns-clause-held
returns-clause-held g c =
    let p = ChangedAt-placed (EndedWithin g.S.Stage.acts) c.in-Some.place c.args.stages.now c.end_at.new.stages c.end_at.ensures.ended in
    rw p.put (AllHeld-set g.S.Stage.acts c.in-Some.place c.args.stages.now p.after p.changed.1 c.requires.held)

pub returns-clause-order : goal.returns-clause-order
returns-clause-order g c = λ f.
    let p = ChangedAt-placed (EndedWithin g.S.Stage.acts) c.in-Some.place c.args.stages.now c.end_at.new.stages c.end_at.ensures.ended in
    let held = rw (← p.put) at (AllHeld-set g.S.Stage.acts c.in-Some.place c.args.stages.now p.after p.changed.1 c.requires.held) in
    end-order g.S.Stage.acts g.S.StageCalls.handed g.S.PassesWhile.passed_while (record f { stages = c.args.stages.now }) c.in-Some.place c.end_at.new.stages c.end_at.ensures.handed held
