use Rattle.std.proofs.Common.{◌∙◌, arith}
use Rattle.std.proofs.lemmas.Grind.{common_steps}
use Rattle.fx_chain_run.proofs.Waiting.{AsksOn-turn}
use Rattle.fx_chain_run.proofs.reading.fetch.Goals as goal

pub returns-in-Ok-eq0-clause-asked : goal.returns-in-Ok-eq0-clause-asked
returns-in-Ok-eq0-clause-asked g c = AsksOn-turn g.R.ReadBeside.asked _ _ _ _ _ _ _ _ _ _ c.loop-source.invariant.asked (rw c.held.ensures.count at c.loop-source-test.true) c.loop-source.invariant.sent c.in-Ok.ensures.sent c.in-Ok.ensures.live c.ask.ensures.asked

pub returns-in-Err-clause-asked : goal.returns-in-Err-clause-asked
returns-in-Err-clause-asked g c = AsksOn-turn g.R.ReadBeside.asked _ _ _ _ _ _ _ _ _ _ c.loop-source.invariant.asked (rw c.held.ensures.count at c.loop-source-test.true) c.loop-source.invariant.sent c.in-Ok.ensures.sent c.in-Ok.ensures.live c.ask.ensures.asked

pub loop-source-preserved : goal.loop-source-preserved
loop-source-preserved g c = record {
  stays = λ bytes known. c.in-Ok-ask.ensures.stays bytes (c.loop-source.invariant.stays bytes known);
  delivered = grind (arith, common_steps);
  reads = c.in-Ok-ask.ensures.failures ∙ c.loop-source.invariant.reads;
  sent = λ first all s. c.in-Ok.ensures.sent first all (c.loop-source.invariant.sent first all s);
  count = c.in-Ok.ensures.count ∙ c.loop-source.invariant.count;
  asked = AsksOn-turn g.R.ReadBeside.asked _ _ _ _ _ _ _ _ _ _ c.loop-source.invariant.asked (rw c.held.ensures.count at c.loop-source-test.true) c.loop-source.invariant.sent c.in-Ok.ensures.sent c.in-Ok.ensures.live c.ask.ensures.asked;
  writes = c.in-Ok.ensures.failures ∙ c.loop-source.invariant.writes;
}
