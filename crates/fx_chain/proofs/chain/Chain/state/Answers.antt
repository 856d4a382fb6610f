use Rattle.fx_chain.proofs.Chaining.{count-is, work-is}
use Rattle.fx_chain.proofs.chain.Chain.state.Goals as goal

pub returns-clause-bounded : goal.returns-clause-bounded
returns-clause-bounded c = rw (← c.self.view_is) (rw (work-is _ c.self.invariant _, count-is _ c.self.invariant) at c.state.ensures.bounded)
