-- Delays in milliseconds as text, by this project's profile: rounded to whole billionths of a millisecond.
use Rattle.std.specs.Prelude.{ℕ, ◌*◌, ◌/◌, ◌^◌, nat_lt, not, ◌&&◌, ◌||◌, max, if◌then◌else◌, List, length, Result, Err}
use Rattle.fx_fixed.specs.Clock.{within_reach}
use Rattle.fx_fixed.specs.Decimals.{exponent_size, is_decimal, is_negative, parts_of, unsigned}
use Rattle.fx_fixed.specs.declared.times.TimeFault.{TimeFault}
use Rattle.fx_fixed.specs.declared.times.TimeFault.TheVariants.{BadTime, Negative, TooFar}

-- the frames of these billionths of a millisecond: at least one
abbrev pub delay_of : ℕ → ℕ → ℕ
delay_of rate billionths = max 1 (billionths * rate / (1000 * 10 ^ 9))

-- the frames of a delay, or its first fault
abbrev pub millis_of : ℕ → List ℕ → Result ℕ TimeFault
millis_of rate text =
    if nat_lt 40 (length text) || not (is_decimal (unsigned text)) then Err BadTime
    else (if nat_lt 30 (exponent_size (unsigned text)) then Err TooFar
    else (if is_negative text && nat_lt 0 (parts_of (10 ^ 9) (unsigned text)) then Err Negative
    else within_reach (delay_of rate (parts_of (10 ^ 9) (unsigned text)))))
