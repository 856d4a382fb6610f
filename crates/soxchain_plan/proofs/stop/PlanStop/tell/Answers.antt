use Rattle.std.proofs.Common.{rules}
use Rattle.soxchain.proofs.MessageWriterLemmas.{Says-then, Tells-said}
use Rattle.soxchain_plan.proofs.stop.PlanStop.tell.Goals as goal

pub returns : goal.returns
returns g c =
    let writes = g.M.ByteOut.writes in
    let advised = Says-then writes _ _ _ _ _ c.text.ensures c.note.ensures in
    record {
      delivered = Tells-said writes _ _ _ _ _ c.new-message_writer.ensures (search rules) (Says-then writes _ _ _ _ _ c.tell_message.ensures advised);
      status_is = c.status.ensures;
    }
