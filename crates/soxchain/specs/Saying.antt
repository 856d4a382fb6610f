-- What is written through one message writer, from its first text on.
use Rattle.std.specs.Prelude.{◌≡◌, ℕ, List, false}
use Rattle.std.specs.Borrow.{MutBor}
use Rattle.fx_frame_base.specs.Io.{ByteWriter}
use Rattle.soxchain.specs.declared.message_writer.MessageWriter.{MessageWriter}
use Rattle.soxchain.specs.MessageWriter.{TellsMore}

-- nothing was written to the writer yet, and it has not failed
pub record BeginsMessage {M : Type 0} (messages : MutBor M) (message_writer : MessageWriter M) : Type 0 where
  pub same : message_writer.messages.ghost_name ≡ messages.ghost_name
  pub undelivered : message_writer.messages.now ≡ messages.now
  pub unfailed : message_writer.has_failed ≡ false

-- the same writer, where this text is appended to what is to be written
pub record Says {M : Type 0} (writes : ByteWriter M) (old new : MessageWriter M) (text : List ℕ) : Type 0 where
  pub same : new.messages.ghost_name ≡ old.messages.ghost_name
  pub more : TellsMore writes old.has_failed new.has_failed old.messages.now new.messages.now text
