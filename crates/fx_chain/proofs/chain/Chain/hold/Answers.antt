use Rattle.std.proofs.Common.{◌∙◌}
use Rattle.fx_chain.proofs.Chaining.{hold-is, line_sum-effects}
use Rattle.fx_chain.proofs.chain.Chain.hold.Goals as goal

pub returns-clause-value : goal.returns-clause-value
returns-clause-value c = rw (← c.self.view_is) (c.hold.ensures.value ∙ hold-is _ c.self.invariant)

pub returns-clause-capacities : goal.returns-clause-capacities
returns-clause-capacities c = rw (← c.self.view_is) (c.hold.ensures.capacities ∙ line_sum-effects _ c.self.invariant)
