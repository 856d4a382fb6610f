-- What a source holds, and the bytes that are still to come from it.
use Rattle.std.specs.Prelude.{◌≡◌, ℕ, ◌+◌, ◌-◌, ◌^◌, ◌<◌, ◌≤◌, Bool, List, ◌++◌, MatchBool, drop, length, take, Option, Some}
use Rattle.std.specs.Io.KnownBytes.{prepend_known}
use Rattle.fx_frame_base.specs.Io.{ByteReader, saturated}
use Rattle.fx_frame_base.specs.Moments.{Moment, came_short}
use Rattle.fx_sound.specs.Known.{IfKnown}

-- bytes that the reader delivered and nobody took yet, the reader, and whether its last read failed or delivered fewer bytes
-- than were asked for
pub record Held (R : Type 0) : Type 0 where
  pub bytes : List ℕ
  pub reader : R
  pub short : Bool

-- the bytes that are still to come, where they are known
abbrev pub to_come : {R : Type 0} → (R → Option (List ℕ)) → Held R → Option (List ℕ)
to_come rest s = prepend_known s.bytes (rest s.reader)

-- no byte was removed from what is to come
abbrev pub Stays : {R : Type 0} → (R → Option (List ℕ)) → Held R → Held R → Type 0
Stays rest old new = IfKnown (to_come rest old) (λ bytes. to_come rest new ≡ Some bytes)

-- all that is to come is held
abbrev pub HoldsAll : {R : Type 0} → (R → Option (List ℕ)) → Held R → Held R → Type 0
HoldsAll rest old new = IfKnown (to_come rest old) (λ bytes. bytes ≡ new.bytes)

-- the bytes that are held are the first of these
abbrev pub HoldsFront : {R : Type 0} → Held R → List ℕ → Type 0
HoldsFront s bytes = s.bytes ≡ take (length s.bytes) bytes

-- n bytes were there or came, by the reader's count of what it delivered: a statement for counts below the maximum u64
pub record Tells {R : Type 0} (delivered : R → ℕ) (old : Held R) (new : R) (n : ℕ) : Type 0 where
  pub enough : length old.bytes ≤ n
  pub counted : delivered new < 2 ^ 64 - 1 → delivered new + length old.bytes ≡ delivered old.reader + n

-- n bytes were taken, by the same count
abbrev pub Takes : {R : Type 0} → (R → ℕ) → Held R → Held R → ℕ → Type 0
Takes delivered old new n = Tells delivered old new.reader (n + length new.bytes)

-- After a failed read n bytes were taken, and of those after them all that came are held.
pub record HoldsWhatCame {R : Type 0} (delivered : R → ℕ) (old new : Held R) (bytes : List ℕ) (n : ℕ) : Type 0 where
  pub takes : Takes delivered old new n
  pub front : HoldsFront new (drop n bytes)

-- all bytes that were there or came are fewer than n
pub record FallsShort {R : Type 0} (delivered : R → ℕ) (old : Held R) (new : R) (n : ℕ) : Type 0 where
  pub came : ℕ
  pub bound : came < n
  pub tells : Tells delivered old new came

-- So many of the bytes to come were taken, where at most `maximum` were asked for.
pub record TookBytes {R : Type 0} (device : ByteReader R) (old new : Held R) (maximum n : ℕ) : Type 0 where
  -- no more than that
  pub count : n ≤ maximum
  -- they are the first of what was to come, and the others follow
  pub bytes : IfKnown (to_come device.rest old) (λ bytes. (n ≤ length bytes) × (to_come device.rest new ≡ Some (drop n bytes)))
  -- where they are fewer, no more were to come
  pub all : n < maximum → IfKnown (to_come device.rest old) (λ bytes. n ≡ length bytes)
  -- no others were taken
  pub delivered : Takes device.delivered old new n

-- The first n places of a buffer were filled with the next bytes.
pub record FilledFront {R : Type 0} (rest : R → Option (List ℕ)) (old : Held R) (out new_out : List ℕ) (n : ℕ) : Type 0 where
  -- they are the bytes to come
  pub known : IfKnown (to_come rest old) (λ bytes. take n new_out ≡ take n bytes)
  -- the other places are as before
  pub rest_unchanged : drop n new_out ≡ drop n out

-- A read failed before n bytes had come.
pub record FailedBefore {R : Type 0} (device : ByteReader R) (old new : Held R) (n : ℕ) : Type 0 where
  -- fewer were there or came
  pub short : FallsShort device.delivered old new.reader n
  -- none of them was taken
  pub untaken : Takes device.delivered old new 0
  -- all of them are held
  pub front : IfKnown (to_come device.rest old) (HoldsFront new)

-- the count of failed reads rises where one failed, and not otherwise
abbrev pub CountsReadFailure : {R : Type 0} → ByteReader R → Bool → Held R → Held R → Type 0
CountsReadFailure device failed old new =
    MatchBool failed (device.failures new.reader ≡ saturated (device.failures old.reader + 1)) (device.failures new.reader ≡ device.failures old.reader)

-- The reader was asked once, when the writer had taken these bytes: what it delivered came after the bytes that were held.
pub record AsksBeside {R : Type 0} (asked : R → R → Moment → Type 0) (old new : Held R) (taken : Option (List ℕ)) : Type 0 where
  pub moment : Moment
  pub read : asked old.reader new.reader moment
  pub brought : new.bytes ≡ old.bytes ++ moment.delivered
  pub short : new.short ≡ came_short moment
  pub seen : moment.taken ≡ taken
