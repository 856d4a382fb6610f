use Rattle.std.proofs.Common.{◌≡◌, None}
use Rattle.fx_chain_flow.specs.Order.{came}
use Rattle.fx_chain_flow.proofs.Orders.{FitsHold-none}
use Rattle.fx_chain_flow.proofs.flow.Flow.take.Goals as goal

pub returns-clause-order : goal.returns-clause-order
returns-clause-order g c = λ first xs gs order.
    let s = c.self.inside in
    let empty : s.inlet ≡ None = rw (← c.self.view_is) at c.requires.hungry.empty in
    let before = rw (← c.self.view_is) at order in
    came xs gs c.args.frame _ before empty (FitsHold-none g.S.Stage.acts 0 _ c.self.invariant.2)
