-- Sample counts as text, by sox(1), Effects, on time specifications, and this project's profile.
use Rattle.std.specs.Prelude.{ℕ, ◌+◌, ◌*◌, ◌/◌, ◌%◌, ◌^◌, ◌==◌, ◌&&◌, nat_lt, Bool, if◌then◌else◌, List, length, Result, Err}
use Rattle.fx_fixed.specs.Clock.{within_reach}
use Rattle.fx_fixed.specs.Decimals.{exponent_text, fraction_digits, is_decimal, lowered_by, mantissa_of, raised_by, unsigned, whole_digits}
use Rattle.fx_fixed.specs.declared.times.TimeFault.{TimeFault}
use Rattle.fx_fixed.specs.declared.times.TimeFault.TheVariants.{BadTime, NotWhole}

-- a number, raised and lowered by these numbers of places, where that is whole
abbrev pub whole_of : ℕ → ℕ → ℕ → Result ℕ TimeFault
whole_of n raised lowered =
    if (n * 10 ^ raised) % 10 ^ lowered == 0
    then within_reach (n * 10 ^ raised / 10 ^ lowered)
    else Err NotWhole

-- the form of a sample count, of which the text is what stands before its `s`
abbrev pub is_count : List ℕ → Bool
is_count text =
    is_decimal text
    && nat_lt (length (whole_digits text)) 19
    && nat_lt (length (fraction_digits text)) 19
    && nat_lt (length (unsigned (exponent_text text))) 3

-- the frames of such a sample count, or its first fault
abbrev pub count_of : List ℕ → Result ℕ TimeFault
count_of text =
    if is_count text
    then whole_of (mantissa_of text) (raised_by text) (length (fraction_digits text) + lowered_by text)
    else Err BadTime
