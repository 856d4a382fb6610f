use Rattle.fx_chain.proofs.Chaining.{work-is}
use Rattle.fx_chain.proofs.chain.Chain.moves.Goals as goal

pub returns-clause-within : goal.returns-clause-within
returns-clause-within c = rw (← c.self.view_is) (rw (work-is _ c.self.invariant _) at c.moves.ensures.within)
