use Rattle.std.proofs.Common.{[], add-one, arith, length}
use Rattle.fx_chain_flow.specs.StageCall.{MayTake, TookWithin}
use Rattle.fx_chain_flow.proofs.HandOvers.{CanTake-lifted, MovedFrom-out, MovedFrom-on, length-Lifted, CanMove-le}
use Rattle.fx_chain_flow.proofs.Orders.{AllHeld-set, AllLined-after, AllLined-one, out-order, took-order}
use Rattle.fx_chain_flow.proofs.Places.{At-from, ChangedAt-placed}
use Rattle.fx_chain_flow.proofs.moves.move_on.Goals as goal

pub returns-then-place-count-clause-moved : goal.returns-then-place-count-clause-moved
returns-then-place-count-clause-moved g c = MovedFrom-out g.S.Stage.acts c.args.place _ _ _ _ _ c.lift-frame.ensures.lifted c.if-place-count.true

pub returns-then-place-count-clause-lined : goal.returns-then-place-count-clause-lined
returns-then-place-count-clause-lined g c = rw add-one (AllLined-one g.S.Stage.acts c.args.place c.lift-frame.new.stages c.lift-frame.ensures.lined)

pub returns-then-place-count-clause-order : goal.returns-then-place-count-clause-order
returns-then-place-count-clause-order g c = λ f. out-order g.S.Stage.acts g.S.StageCalls.handed g.S.PassesWhile.passed_while _ _ [] c.lift-frame.result c.args.place (c.lift-frame.ensures.order f) c.if-place-count.true

pub take_at-requires : goal.take_at-requires
take_at-requires g c =
    let n = length-Lifted g.S.Stage.acts c.args.place _ _ _ _ _ c.lift-frame.ensures.lifted in
    let l = CanMove-le g.S.Stage.acts c.args.place _ _ c.requires.may in
    At-from (MayTake g.S.Stage.acts (length c.lift-frame.result)) c.args.place c.lift-frame.new.stages (omega arith) (λ d.
    let k = CanTake-lifted g.S.Stage.acts c.args.place _ _ _ _ _ d c.requires.may c.lift-frame.ensures.lifted (omega arith) in
    record { dry = k.is_dry; not_ended = k.is_open; channels = k.channels; below_limit = k.below })

pub returns-clause-moved : goal.returns-clause-moved
returns-clause-moved g c =
    let p = ChangedAt-placed (TookWithin g.S.Stage.acts c.lift-frame.result) c.args.place c.lift-frame.new.stages c.take_at.new.stages c.take_at.ensures.took in
    rw p.put (MovedFrom-on g.S.Stage.acts c.args.place _ _ _ _ p.after p.before c.lift-frame.result c.lift-frame.ensures.lifted p.inside p.changed.0)

pub returns-clause-held : goal.returns-clause-held
returns-clause-held g c =
    let p = ChangedAt-placed (TookWithin g.S.Stage.acts c.lift-frame.result) c.args.place c.lift-frame.new.stages c.take_at.new.stages c.take_at.ensures.took in
    rw p.put (AllHeld-set g.S.Stage.acts c.args.place c.lift-frame.new.stages p.after p.changed.1 c.lift-frame.ensures.held)

pub returns-clause-lined : goal.returns-clause-lined
returns-clause-lined g c =
    let p = ChangedAt-placed (TookWithin g.S.Stage.acts c.lift-frame.result) c.args.place c.lift-frame.new.stages c.take_at.new.stages c.take_at.ensures.took in
    rw (p.put, add-one) (AllLined-after g.S.Stage.acts c.args.place c.lift-frame.new.stages p.after (AllLined-one g.S.Stage.acts c.args.place c.lift-frame.new.stages c.lift-frame.ensures.lined))

pub returns-clause-order : goal.returns-clause-order
returns-clause-order g c = λ f.
    let p = ChangedAt-placed (TookWithin g.S.Stage.acts c.lift-frame.result) c.args.place c.lift-frame.new.stages c.take_at.new.stages c.take_at.ensures.took in
    let held = rw (← p.put) at (AllHeld-set g.S.Stage.acts c.args.place c.lift-frame.new.stages p.after p.changed.1 c.lift-frame.ensures.held) in
    took-order g.S.Stage.acts g.S.StageCalls.handed g.S.PassesWhile.passed_while _ _ [] [] c.lift-frame.result c.args.place c.take_at.new.stages (c.lift-frame.ensures.order f) c.take_at.ensures.handed held
