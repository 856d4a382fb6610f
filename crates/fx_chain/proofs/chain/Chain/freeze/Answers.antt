use Rattle.std.proofs.Common.{arith}
use Rattle.fx_chain.proofs.Chaining.{count-is}
use Rattle.fx_chain_stages.proofs.StageLaws.{narrow-pending, narrow-stages}
use Rattle.fx_chain.proofs.chain.Chain.freeze.Goals as goal

pub returns-clause-within : goal.returns-clause-within
returns-clause-within c =
    let held = rw (← c.self.view_is) at c.held-held.ensures.within in
    let value = rw (← c.self.view_is) at c.held-held.ensures.value in
    let frames = c.in_ok-frames.ensures.frames in
    rw (← c.self.view_is) (omega (arith, held, value, frames))

pub returns-clause-numbers : goal.returns-clause-numbers
returns-clause-numbers c =
    let count = count-is _ c.self.invariant in
    let numbers = c.in_ok-frames.ensures.numbers in
    rw (← c.self.view_is) (omega (arith, count, numbers))

pub returns-clause-narrow : goal.returns-clause-narrow
returns-clause-narrow c =
    let sound = c.in_ok-frames.ensures.sound in
    rw (← c.self.view_is) (narrow-pending _ _ sound.0.inlet, narrow-stages _ sound.1)
