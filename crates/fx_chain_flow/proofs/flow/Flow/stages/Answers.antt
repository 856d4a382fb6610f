use Rattle.std.proofs.Common.{add-zero, arith}
use Rattle.fx_chain_flow.proofs.Laws.{given_by-due, given_by-le}
use Rattle.fx_chain_flow.proofs.Moving.{determined-dry}
use Rattle.fx_chain_flow.proofs.flow.Flow.stages.Goals as goal

pub returns-clause-maximum : goal.returns-clause-maximum
returns-clause-maximum g c =
    rw (← c.self.view_is) (given_by-le g.S.Stage.acts g.met.S.Stage.rises _ _ _ _ c.self.invariant.0.joined (omega arith))

pub returns-clause-due : goal.returns-clause-due
returns-clause-due g c =
    rw (← c.self.view_is) (λ h.
    let dry = determined-dry g.S.Stage.acts _ _ c.self.invariant.1 h.dry in
    rw (h.empty, add-zero) (given_by-due g.S.Stage.acts _ _ _ h.not_ended dry c.self.invariant.0.joined))

pub returns-clause-determined : goal.returns-clause-determined
returns-clause-determined g c = rw (← c.self.view_is) (λ h. determined-dry g.S.Stage.acts _ _ c.self.invariant.1 h.dry)
