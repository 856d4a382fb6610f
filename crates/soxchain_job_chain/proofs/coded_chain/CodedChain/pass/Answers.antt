use Rattle.std.proofs.Common.{◌≤◌}
use Rattle.soxchain_job_chain.proofs.Passing.{PassesFront-then, Passes-all, last-turn}
use Rattle.soxchain_job_chain.proofs.coded_chain.CodedChain.pass.Goals as goal

pub turns-preserved : goal.turns-preserved
turns-preserved c =
    let some : 1 ≤ c.args.self.now.chain.plan.head.channels = rw (← c.self.view_is, ← c.inputs-channels.ensures.value) c.inputs-channels.ensures.some in
    PassesFront-then c.args.self.now c.turns.self c.feed_once.new.self c.args.output.now.items c.turns.output.items c.feed_once.new.output.items c.args.input.now c.turns.rest.now c.in_ok-turn.turn.left.now
    some c.requires.running c.turns.invariant c.in_ok-turn.ensures.passes

pub returns-then-not-turn-clause-passes : goal.returns-then-not-turn-clause-passes
returns-then-not-turn-clause-passes c = λ n whole.
    let some : 1 ≤ c.args.self.now.chain.plan.head.channels = rw (← c.self.view_is, ← c.inputs-channels.ensures.value) c.inputs-channels.ensures.some in
    let front = PassesFront-then c.args.self.now c.turns.self c.feed_once.new.self c.args.output.now.items c.turns.output.items c.feed_once.new.output.items c.args.input.now c.turns.rest.now c.in_ok-turn.turn.left.now
    some c.requires.running c.turns.invariant c.in_ok-turn.ensures.passes in
    Passes-all c.args.self.now c.feed_once.new.self c.args.output.now.items c.feed_once.new.output.items c.args.input.now c.in_ok-turn.turn.left.now n some c.requires.running
    (last-turn c.args.self.now c.turns.self c.feed_once.new.self _ c.turns.invariant.passes.stays (c.in_ok-turn.ensures.all c.if-not-turn.true)) whole front
