use Rattle.std.proofs.Common.{arith}
use Rattle.fx_chain.proofs.Chaining.{count-is}
use Rattle.fx_chain.proofs.chain.Chain.clips.Goals as goal

pub clips-requires : goal.clips-requires
clips-requires c =
    let count = count-is _ c.self.invariant in
    let last = rw (← c.self.view_is) at c.requires.last in
    omega (arith, c.requires.first, last, count)
