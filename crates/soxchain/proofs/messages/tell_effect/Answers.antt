use Rattle.soxchain.proofs.MessageWriterLemmas.{Says-then}
use Rattle.soxchain.proofs.messages.tell_effect.Goals as goal

pub returns : goal.returns
returns g c = rw (c.format.ensures.text) at (Says-then g.M.ByteOut.writes _ _ _ _ _ (Says-then g.M.ByteOut.writes _ _ _ _ _ c.sentence.ensures c.text.ensures) c.note.ensures)
