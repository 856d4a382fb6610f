-- What was kept of a message.
use Rattle.std.proofs.Common.{◌≡◌, ℕ, false, List, [], MutBor, Some, refl}
use Rattle.std.proofs.KnownBytes.{Appends-nil}
use Rattle.fx_frame_base.specs.Io.{ByteWriter}
use Rattle.soxchain.specs.declared.message_writer.MessageWriter.{MessageWriter}
use Rattle.soxchain.specs.Saying.{BeginsMessage, Says}
use Rattle.soxchain.specs.MessageWriter.{Delivered}

-- a writer that had no bytes, and has not failed, has all that it was told
pub whole-said : {M : Type 0} (writes : ByteWriter M) (messages : MutBor M) (from to : MessageWriter M) (text items : List ℕ) → BeginsMessage messages from → writes.taken messages.now ≡ Some []
    → writes.taken to.messages.now ≡ Some items → to.has_failed ≡ false → Says writes from to text → items ≡ text
whole-said writes messages from to text items begun empty kept unfailed said =
    let first = writes.taken from.messages.now in
    let count = writes.failures from.messages.now in
    let start : Delivered from.has_failed first first count count [] = rw (begun.unfailed) (record { took = Appends-nil first; unfailed = refl }) in
    (rw (unfailed, kept, begun.undelivered, empty) at (said.more first count [] start)).took
