use Rattle.std.proofs.Common.{refl, inl, inr, rules}
use Rattle.soxchain.proofs.Converting.{Unready-delivered, line-read}
use Rattle.soxchain.proofs.MessageWriterLemmas.{Tells-said}
use Rattle.soxchain.proofs.ready.prepare.Goals as goal

pub returns-in-Err-clause-refused : goal.returns-in-Err-clause-refused
returns-in-Err-clause-refused g c = inl (record {
  fault = c.in-Err.fault;
  reads = c.in-Err.ensures;
  status_is = c.refuse_line.ensures.status;
  unread = refl;
  delivered = Tells-said g.M.ByteOut.writes _ _ _ _ _ c.new-message_writer.ensures (search rules) c.refuse_line.ensures.delivered;
})

pub returns-in-Err-prepare_for-clause-refused : goal.returns-in-Err-prepare_for-clause-refused
returns-in-Err-prepare_for-clause-refused g c = inr (record {
  line = c.in-Ok.line;
  is_line = line-read _ c.in-Ok.line c.in-Ok.ensures;
  unready = Unready-delivered _ _ _ _ _ _ _ _ (λ text said. Tells-said g.M.ByteOut.writes _ _ _ _ _ c.new-message_writer.ensures (search rules) said) c.in-Err-prepare_for.ensures.refused;
})
