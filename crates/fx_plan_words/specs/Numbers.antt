-- Numbers, times and positions in the words of effects, and which fault of a plan each fault of theirs is (this project's profile).
use Rattle.std.specs.Prelude.{ℕ, ◌*◌, nat_lt, ◌||◌, Bool, if◌then◌else◌, ℤ, pos, int_lt, unsigned_abs, Result, Ok, Err, ◌^◌}
use Rattle.fx_fixed.specs.declared.gains.NumberFault.{NumberFault}
use Rattle.fx_fixed.specs.declared.gains.NumberFault.TheVariants as numbers
use Rattle.fx_fixed.specs.declared.times.TimeFault.{TimeFault}
use Rattle.fx_fixed.specs.declared.times.TimeFault.TheVariants as times
use Rattle.fx_fixed.specs.declared.positions.Anchor.{Anchor}
use Rattle.fx_fixed.specs.declared.positions.At.{At}
use Rattle.fx_fixed.specs.declared.positions.At.TheVariants.{Start}
use Rattle.fx_fixed.specs.Gains.{gain_of}
use Rattle.fx_fixed.specs.Times.{time_of}
use Rattle.fx_fixed.specs.Delays.{millis_of}
use Rattle.fx_fixed.specs.Positions.{position_of}
use Rattle.fx_plan_words.specs.declared.fault.PlanCause.{PlanCause}
use Rattle.fx_plan_words.specs.declared.fault.PlanCause.TheVariants.{BadArgument, OutOfRange}
use Rattle.fx_plan_words.specs.Faults.{Word}

abbrev pub number_cause : NumberFault → PlanCause
number_cause numbers.OutOfRange = OutOfRange
number_cause fault = BadArgument

abbrev pub time_cause : TimeFault → PlanCause
time_cause times.TooFar = OutOfRange
time_cause fault = BadArgument

-- what was read, or the fault by its cause
abbrev pub with_cause : {A F : Type 0} → (F → PlanCause) → Result A F → Result A PlanCause
with_cause cause (Ok x) = Ok x
with_cause cause (Err fault) = Err (cause fault)

-- a value that passes a test
abbrev pub within : {A : Type 0} → (A → Bool) → Result A PlanCause → Result A PlanCause
within passes (Ok x) = if passes x then Ok x else Err OutOfRange
within passes (Err cause) = Err cause

-- the gain that a word is
unfoldable pub gain_in : Word → Result ℤ PlanCause
gain_in word = with_cause number_cause (gain_of (10 ^ 12) word)

-- a gain is below zero, or more than `maximum` units in magnitude
abbrev pub is_below : ℤ → Bool
is_below gain = int_lt gain (pos 0)

abbrev pub is_beyond : ℕ → ℤ → Bool
is_beyond maximum gain = nat_lt (maximum * 10 ^ 12) (unsigned_abs gain)

-- a value, unless a test refuses it as out of range
abbrev pub unless : {A : Type 0} → (A → Bool) → Result A PlanCause → Result A PlanCause
unless refuses (Ok x) = if refuses x then Err OutOfRange else Ok x
unless refuses (Err cause) = Err cause

-- the gain from 0 to `maximum` units that a word is
unfoldable pub gain_up_to : ℕ → Word → Result ℤ PlanCause
gain_up_to maximum word = unless (λ gain. is_below gain || is_beyond maximum gain) (gain_in word)

-- the frames of the time, and of the delay in milliseconds, that a word is
unfoldable pub frames_in : ℕ → Word → Result ℕ PlanCause
frames_in rate word = with_cause time_cause (time_of rate word)

unfoldable pub delay_in : ℕ → Word → Result ℕ PlanCause
delay_in rate word = with_cause time_cause (millis_of rate word)

-- the position that a word is
unfoldable pub position_in : ℕ → Anchor → At → Word → Result At PlanCause
position_in rate default previous word = with_cause time_cause (position_of rate default previous word)

-- where the first position of each effect is counted from
abbrev pub beginning : At
beginning = Start 0
