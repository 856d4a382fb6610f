-- What a counted reader or writer has counted.
use Rattle.std.specs.Prelude.{◌≡◌, ◌+◌, ℕ, Bool, List, Option, Some, IfSome}
use Rattle.fx_frame_base.specs.Io.{ByteReader, ByteWriter, Rewinds, saturated}

-- the reader or writer, and its counts
pub record ByteCounts (T : Type 0) : Type 0 where
  pub inner : T
  pub delivered : ℕ
  pub failures : ℕ
  pub flushed : Bool

-- how a counted reader is specified, by the bytes to come from the reader inside
abbrev pub counted_reads : {T : Type 0} → (T → Option (List ℕ)) → ByteReader (ByteCounts T)
counted_reads rest = record { rest = λ c. rest c.inner; delivered = λ c. c.delivered; failures = λ c. c.failures }

-- how a counted writer is specified, by the bytes that the writer inside took
abbrev pub counted_writes : {T : Type 0} → (T → Option (List ℕ)) → ByteWriter (ByteCounts T)
counted_writes taken = record { taken = λ c. taken c.inner; flushed = λ c. c.flushed; failures = λ c. c.failures }

-- how a counted writer goes back, by the place of the next byte of the writer inside
abbrev pub counted_rewinds : {T : Type 0} → (T → Option ℕ) → Rewinds (ByteCounts T)
counted_rewinds place = record {
  place = λ c. place c.inner;
  back = λ old new. IfSome (place old.inner) (λ _. place new.inner ≡ Some 0);
  stuck = λ old new. new.failures ≡ saturated (old.failures + 1);
}
