-- The moment of a read: what the writer of a run had taken when the reader was asked (this project's profile).
use Rattle.std.specs.Prelude.{ℕ, Bool, true, false, ◌||◌, nat_lt, List, [], length, take, Option, Result, Ok, Err}

-- one read: for how many bytes there was space, those that were delivered, whether it failed, and the bytes that the writer had
-- taken by then, where they are known
pub record Moment : Type 0 where
  pub free : ℕ
  pub delivered : List ℕ
  pub failed : Bool
  pub taken : Option (List ℕ)

-- the moment of a read that returned so
abbrev pub moment_of : {E : Type 0} → Result ℕ E → List ℕ → Option (List ℕ) → Moment
moment_of (Ok n) buffer taken = record { free = length buffer; delivered = take n buffer; failed = false; taken = taken }
moment_of (Err e) buffer taken = record { free = length buffer; delivered = []; failed = true; taken = taken }

-- it failed, or delivered fewer bytes than there was space for: the producer is slower, and the next read may have to wait
abbrev pub came_short : Moment → Bool
came_short m = m.failed || nat_lt (length m.delivered) m.free
