-- What a program asks of a host, and what it answers (this project's profile).
use Rattle.std.specs.Prelude.{◌≡◌, ℕ, true, List}
use Rattle.std.specs.declared.io.ErrorKind.{ErrorKind}
use Rattle.fx_frame_base.specs.Io.{ByteReader, ByteWriter}

-- A host, by what it answered to one call: the words after the program's name, or why they could not be read; a standard
-- stream; or standard output, given back by the call: nothing more is written to it.
pub record Machine (I O : Type 0) : Type 1 where
  pub asked : List (List ℕ) → Type 0
  pub mute : ErrorKind → Type 0
  pub is_input : I → Type 0
  pub is_output : O → Type 0
  pub left : O → Type 0

-- The file that was opened to read by one call, by its name; the name whose opening was refused; and the opened file that was closed,
-- of which nothing more is read.
pub record Opened (H R : Type 0) : Type 1 where
  pub opened : H → H → List ℕ → R → Type 0
  pub unopened : H → H → List ℕ → Type 0
  pub closed : H → H → R → Type 0

-- nothing was read of it yet, and no call of it failed
pub record IsNewReader {R : Type 0} (reads : ByteReader R) (reader : R) : Type 0 where
  pub undelivered : reads.delivered reader ≡ 0
  pub unfailed : reads.failures reader ≡ 0

-- no bytes are pending, and no call of it failed
pub record IsNewWriter {W : Type 0} (writes : ByteWriter W) (writer : W) : Type 0 where
  pub flushed : writes.flushed writer ≡ true
  pub unfailed : writes.failures writer ≡ 0
