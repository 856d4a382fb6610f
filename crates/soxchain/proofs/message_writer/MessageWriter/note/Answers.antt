use Rattle.soxchain.proofs.MessageWriterLemmas.{Says-three}
use Rattle.soxchain.proofs.message_writer.MessageWriter.note.Goals as goal

pub returns : goal.returns
returns g c = Says-three g.M.ByteOut.writes _ _ _ _ _ _ _ c.text.ensures c.text-2.ensures c.text-3.ensures
