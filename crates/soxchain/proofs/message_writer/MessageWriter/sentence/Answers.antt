use Rattle.soxchain.proofs.MessageWriterLemmas.{Says-then, Says-three}
use Rattle.soxchain.proofs.message_writer.MessageWriter.sentence.Goals as goal

pub returns : goal.returns
returns g c =
    let writes = g.M.ByteOut.writes in
    Says-then writes _ _ _ _ _ (Says-then writes _ _ _ _ _ (Says-three writes _ _ _ _ _ _ _ c.text.ensures c.text-2.ensures c.text-3.ensures) c.text-4.ensures) c.text-5.ensures
