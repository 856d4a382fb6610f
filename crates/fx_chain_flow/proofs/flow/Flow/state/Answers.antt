use Rattle.std.proofs.Common.{add-zero}
use Rattle.fx_chain_flow.proofs.HandOvers.{IsFirstOpen-not_ended, AllDetermined-dry}
use Rattle.fx_chain_flow.proofs.Laws.{given_by-due}
use Rattle.fx_chain_flow.proofs.Moving.{determined-none, wet-some}
use Rattle.fx_chain_flow.proofs.Steps.{StepsInSequence-bound}
use Rattle.fx_chain_flow.proofs.flow.Flow.state.Goals as goal

pub returns-then-self-gt0-clause-state : goal.returns-then-self-gt0-clause-state
returns-then-self-gt0-clause-state g c =
    rw (← c.self.view_is) (
      (λ h. wet-some g.S.Stage.acts _ _ c.if-self-gt0.true c.self.invariant.1 h.dry),
      (λ h. wet-some g.S.Stage.acts _ _ c.if-self-gt0.true c.self.invariant.1 (AllDetermined-dry g.S.Stage.acts _ h.dry)),
    )

pub returns-in-Some-first_open-clause-state : goal.returns-in-Some-first_open-clause-state
returns-in-Some-first_open-clause-state g c =
    let first = rw c.deref.ensures.value at c.in-Some-first_open.ensures in
    rw (← c.self.view_is) ((λ h. absurd (let n = h.not_ended in let e = c.if-not-self.false in cc)), (λ h. IsFirstOpen-not_ended g.S.Stage.acts _ _ first h.all_ended))

pub returns-then-not-self-clause-state : goal.returns-then-not-self-clause-state
returns-then-not-self-clause-state g c =
    let dry = determined-none g.S.Stage.acts _ _ c.if-self-gt0.false c.self.invariant.1 in
    rw (← c.self.view_is) (record { empty = c.in_default.is; not_ended = c.if-not-self.true; dry = AllDetermined-dry g.S.Stage.acts _ dry })

pub returns-then-not-self-clause-due : goal.returns-then-not-self-clause-due
returns-then-not-self-clause-due g c =
    let dry = determined-none g.S.Stage.acts _ _ c.if-self-gt0.false c.self.invariant.1 in
    rw (← c.self.view_is, c.in_default.is, add-zero) (λ e. given_by-due g.S.Stage.acts _ _ _ c.if-not-self.true dry c.self.invariant.0.joined)

pub returns-then-self-gt0-clause-bounded : goal.returns-then-self-gt0-clause-bounded
returns-then-self-gt0-clause-bounded g c = rw (← c.self.view_is) (λ n last steps. StepsInSequence-bound g.S.Stage.acts g.met.S.Stage.rises _ last n c.self.invariant.0 steps)

pub returns-in-Some-clause-bounded : goal.returns-in-Some-clause-bounded
returns-in-Some-clause-bounded g c = rw (← c.self.view_is) (λ n last steps. StepsInSequence-bound g.S.Stage.acts g.met.S.Stage.rises _ last n c.self.invariant.0 steps)

pub returns-then-not-self-clause-bounded : goal.returns-then-not-self-clause-bounded
returns-then-not-self-clause-bounded g c = rw (← c.self.view_is) (λ n last steps. StepsInSequence-bound g.S.Stage.acts g.met.S.Stage.rises _ last n c.self.invariant.0 steps)

pub returns-in-Some-first_open-clause-bounded : goal.returns-in-Some-first_open-clause-bounded
returns-in-Some-first_open-clause-bounded g c = rw (← c.self.view_is) (λ n last steps. StepsInSequence-bound g.S.Stage.acts g.met.S.Stage.rises _ last n c.self.invariant.0 steps)

pub returns-clause-bounded : goal.returns-clause-bounded
returns-clause-bounded g c = rw (← c.self.view_is) (λ n last steps. StepsInSequence-bound g.S.Stage.acts g.met.S.Stage.rises _ last n c.self.invariant.0 steps)
