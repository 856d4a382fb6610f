use Rattle.fx_chain.proofs.Chaining.{hold-is}
use Rattle.fx_chain.proofs.chain.Chain.held.Goals as goal

pub returns-clause-within : goal.returns-clause-within
returns-clause-within c = rw (← c.self.view_is) (rw (hold-is _ c.self.invariant) at c.held.ensures.within)
