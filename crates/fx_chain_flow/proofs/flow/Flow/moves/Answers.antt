use Rattle.std.proofs.Common.{◌<◌, ◌+◌, ◌^◌, arith}
use Rattle.fx_chain_flow.specs.Parts.{given_of}
use Rattle.fx_chain_flow.proofs.Steps.{moves-fit, moves-sound, moves-done}
use Rattle.fx_chain_flow.proofs.flow.Flow.moves.Goals as goal

pub given_by_all-requires : goal.given_by_all-requires
given_by_all-requires g c =
    let h : c.self.inside.left + given_of g.S.Stage.acts c.self.inside.stages.items + 1 < 2 ^ 64 = moves-fit g.S.Stage.acts g.met.S.Stage.rises _ c.self.invariant.0 in
    rw c.deref.ensures.value (omega arith)

pub overflow_add-result : goal.overflow_add-result
overflow_add-result g c =
    let h : c.self.inside.left + given_of g.S.Stage.acts c.self.inside.stages.items + 1 < 2 ^ 64 = moves-fit g.S.Stage.acts g.met.S.Stage.rises _ c.self.invariant.0 in
    let e = rw c.deref.ensures.value at c.given_by_all.ensures in
    omega arith

pub returns-clause-within : goal.returns-clause-within
returns-clause-within g c = rw (c.given_by_all.ensures, c.deref.ensures.value, ← c.self.view_is) (moves-sound g.S.Stage.acts g.met.S.Stage.rises _ c.self.invariant.0)

pub returns-clause-done : goal.returns-clause-done
returns-clause-done g c = rw (c.given_by_all.ensures, c.deref.ensures.value, ← c.self.view_is) (moves-done g.S.Stage.acts _ c.self.invariant.0)
