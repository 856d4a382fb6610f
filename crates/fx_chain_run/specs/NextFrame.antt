-- What reading the next frame of a sound does while a writer waits (this project's profile).
use Rattle.std.specs.Prelude.{◌≡◌, ℕ, ◌+◌, false, IfOk, List, MatchBool, OnSome, length, Option, Result}
use Rattle.fx_frame_base.specs.Io.{ByteReader, ByteWriter, saturated}
use Rattle.fx_frame_base.specs.Moments.{Moment}
use Rattle.fx_sound.specs.Output.{Pending, SendsOn, bytes_put}
use Rattle.fx_sound.specs.Sound.{Reading, at_most_announced, size_of}
use Rattle.fx_sound.specs.Source.{Held, Stays}
use Rattle.fx_chain_run.specs.declared.pump.Cause.{Cause}
use Rattle.fx_chain_run.specs.Run.{is_write_failed, run_read_failed}
use Rattle.fx_chain_run.specs.Waiting.{AsksOn}

-- A fault is returned only where a failure was counted.
pub record CountsCause {R W X : Type 0} (reader : ByteReader R) (writer : ByteWriter W) (result : Result X Cause) (r r' : R) (w w' : W) : Type 0 where
  -- the failed reads
  pub reads : MatchBool (run_read_failed result) (reader.failures r' ≡ saturated (reader.failures r + 1)) (reader.failures r' ≡ reader.failures r)
  -- the failed writes
  pub writes : MatchBool (is_write_failed result) (writer.failures w' ≡ saturated (writer.failures w + 1)) (writer.failures w' ≡ writer.failures w)

-- Pending bytes went to the writer, and no others came.
pub record PassesPending (now new_now : Option (List ℕ)) (out new_out : Pending) : Type 0 where
  -- what is to be sent is unchanged
  pub sends : SendsOn now new_now out new_out
  -- and so is how much of it there is
  pub count : bytes_put new_out ≡ bytes_put out

-- No frame was taken, since a read or a write failed or the sound is too long.
pub record TookNone {R F : Type 0} (device : ByteReader R) (result : Result F Cause) (old new : Held R) (p p' : Reading) : Type 0 where
  -- the progress is as before
  pub progress : p' ≡ p
  -- and so is what is to come, unless a read failed
  pub kept : run_read_failed result ≡ false → Stays device.rest old new

-- The reads for a frame, while less than a frame was held, and by how many bytes where one was taken.
abbrev pub AsksNext : {R F : Type 0} → (R → R → Moment → Type 0) → Held R → Held R → Reading → Option (List ℕ) → Pending → Result (Option F) Cause → Type 0
AsksNext asked old new p now out result =
    AsksOn asked old new (at_most_announced p.left (size_of p)) now out (λ more. IfOk result (λ o. OnSome o (length old.bytes + more ≡ size_of p + length new.bytes)))
