use Rattle.std.proofs.Common.{rules}
use Rattle.soxchain.proofs.MessageWriterLemmas.{Tells-said}
use Rattle.soxchain_c.proofs.asked.tell_refused.Goals as goal

pub returns : goal.returns
returns g c = Tells-said g.M.ByteOut.writes _ _ _ _ _ c.new-message_writer.ensures (search rules) (rw (c.label_of_line.ensures) at c.tell_line.ensures)
