use Rattle.std.proofs.Common.{add-zero}
use Rattle.fx_chain_flow.proofs.Laws.{any_spent-enough}
use Rattle.fx_chain_flow.proofs.Moving.{determined-dry}
use Rattle.fx_chain_flow.proofs.flow.Flow.is_spent.Goals as goal

pub returns-clause-enough : goal.returns-clause-enough
returns-clause-enough g c =
    rw (← c.self.view_is, c.is_any_spent.ensures.value, c.deref.ensures.value) (λ h.
    let dry = determined-dry g.S.Stage.acts _ _ c.self.invariant.1 h.dry in
    rw (h.empty, add-zero) (any_spent-enough g.S.Stage.acts _ _ _ h.not_ended dry c.self.invariant.0.joined))
