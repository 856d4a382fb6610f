use Rattle.std.proofs.Common.{◌≡◌, ◌-◌, suc, arith, add-one}
use Rattle.fx_chain_flow.proofs.HandOvers.{IsLastWet-at}
use Rattle.fx_chain_flow.proofs.moves.wet_end.Goals as goal

pub returns-then-not-dry-clause-wet : goal.returns-then-not-dry-clause-wet
returns-then-not-dry-clause-wet g c =
    let e : c.stages.place ≡ suc (c.stages.place - 1) = omega arith in
    rw add-one (IsLastWet-at g.S.Stage.acts (c.stages.place - 1) c.args.stages.now c.index-stages-place.result (omega arith) (cc (c.is_dry-dry.ensures.value)) (rw (← e) c.stages.invariant.dry))

pub returns-then-not-dry-clause-lined : goal.returns-then-not-dry-clause-lined
returns-then-not-dry-clause-lined g c =
    let e : c.stages.place ≡ suc (c.stages.place - 1) = omega arith in
    rw add-one (rw (← e) c.stages.invariant.lined)
