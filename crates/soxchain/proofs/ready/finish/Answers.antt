use Rattle.std.proofs.Common.{rules}
use Rattle.soxchain.proofs.Converting.{Finished-delivered}
use Rattle.soxchain.proofs.MessageWriterLemmas.{Tells-said}
use Rattle.soxchain.proofs.ready.finish.Goals as goal

pub returns : goal.returns
returns g c = rw (← c.ready.view_is) (Finished-delivered _ _ _ _ _ _ _ _ _ _ _ (λ text said. Tells-said g.M.ByteOut.writes _ _ _ _ _ c.new-message_writer.ensures (search rules) said) c.finish_for.ensures)
