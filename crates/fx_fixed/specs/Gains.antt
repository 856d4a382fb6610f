-- Gains as text, by this project's profile: decimal fractions in whole trillionths.
use Rattle.std.specs.Prelude.{ℕ, ◌*◌, nat_lt, not, if◌then◌else◌, List, length, ℤ, Result, Ok, Err}
use Rattle.fx_fixed.specs.Rounding.{signed}
use Rattle.fx_fixed.specs.declared.gains.NumberFault.{NumberFault}
use Rattle.fx_fixed.specs.declared.gains.NumberFault.TheVariants.{NotANumber, TooLong, OutOfRange}
use Rattle.fx_fixed.specs.Decimals.{exponent_size, is_decimal, is_negative, parts_of, unsigned}

-- the gain that a text is, counted in parts of one, or its first fault
abbrev pub gain_of : ℕ → List ℕ → Result ℤ NumberFault
gain_of units text =
    if nat_lt 40 (length text) then Err TooLong
    else (if not (is_decimal (unsigned text)) then Err NotANumber
    else (if nat_lt 30 (exponent_size (unsigned text)) then Err OutOfRange
    else (if nat_lt (1000 * units) (parts_of units (unsigned text)) then Err OutOfRange
    else Ok (signed (is_negative text) (parts_of units (unsigned text))))))
