use Rattle.std.proofs.Common.{◌∙◌, arith}
use Rattle.soxchain.proofs.MessageWriterLemmas.{Appends-part, part-within}
use Rattle.soxchain.proofs.message_writer.write_text.Goals as goal

pub loop-delivered-preserved : goal.loop-delivered-preserved
loop-delivered-preserved g c = record {
  within = part-within c.loop-delivered.delivered c.in-Ok.n c.args.text.now (omega arith) c.in-Ok.ensures.bound;
  took = Appends-part _ _ _ c.loop-delivered.delivered c.in-Ok.n c.args.text.now c.loop-delivered.invariant.took c.in-Ok.ensures.bytes;
  unfailed = c.in-Ok.ensures.failures ∙ c.loop-delivered.invariant.unfailed;
}
