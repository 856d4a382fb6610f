use Rattle.std.proofs.Common.{arith}
use Rattle.soxchain.proofs.MessageWriterLemmas.{Says-then, effect_warnings-more}
use Rattle.soxchain.proofs.messages.tell_effect_warnings.Goals as goal

pub loop-place-preserved : goal.loop-place-preserved
loop-place-preserved g c = record {
  within = omega arith;
  delivered = rw (effect_warnings-more _ c.args.clips.now c.loop-place.place) (rw (c.reported_word-name.ensures) at (Says-then g.M.ByteOut.writes _ _ _ _ _ c.loop-place.invariant.delivered c.tell_effect_warning.ensures));
}
