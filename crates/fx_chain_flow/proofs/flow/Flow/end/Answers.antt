use Rattle.std.proofs.Common.{◌≡◌, false, refl, ◌∙◌, ap}
use Rattle.fx_chain_flow.specs.Order.{end_came}
use Rattle.fx_chain_flow.specs.Parts.{Parts}
use Rattle.fx_chain_flow.proofs.Laws.{Joined-any, Joined-along}
use Rattle.fx_chain_flow.proofs.flow.Flow.end.Goals as goal

pub invariant_of-self : goal.invariant_of-self
invariant_of-self g c =
    let i = c.self.invariant.0 in
    let not_ended : c.self.inside.ended ≡ false = ap (λ (f : Parts g.row.S.Denot). f.ended) c.self.view_is ∙ c.requires.not_ended in
    let empty = ap (λ (f : Parts g.row.S.Denot). f.inlet) c.self.view_is ∙ c.requires.empty in (
      record {
        planned = i.planned;
        joined = Joined-any g.S.Stage.acts _ _ _ (Joined-along g.S.Stage.acts _ _ _ _ _ refl not_ended i.joined);
        bound = i.bound;
        inlet = i.inlet;
        closed = λ e. empty;
      },
      c.self.invariant.1,
      c.self.invariant.2,
      c.self.invariant.3,
    )

pub returns-clause-order : goal.returns-clause-order
returns-clause-order g c = λ first xs gs order. end_came xs gs _ (rw (← c.self.view_is) at order)
