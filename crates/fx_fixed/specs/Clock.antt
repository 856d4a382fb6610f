-- Clock times as text, by sox(1), Effects, on time specifications, and this project's profile: cut at their separators.
use Rattle.std.specs.Prelude.{ℕ, ◌+◌, ◌*◌, ◌^◌, ◌==◌, nat_lt, ◌&&◌, Bool, if◌then◌else◌, List, length, Result, Ok, Err, fold, sum_by}
use Rattle.std.specs.List.{before_first, after_first, list_all, slice_split}
use Rattle.std.specs.Str.{all_ascii_digits}
use Rattle.std.specs.Str.Parse.{digits_value}
use Rattle.fx_fixed.specs.Rounding.{nearest_natural}
use Rattle.fx_fixed.specs.Decimals.{is_point}
use Rattle.fx_fixed.specs.declared.times.TimeFault.{TimeFault}
use Rattle.fx_fixed.specs.declared.times.TimeFault.TheVariants.{BadTime, TooFar}

-- a colon, and the `t` that may end a clock time
abbrev pub is_colon : ℕ → Bool
is_colon c = c == 58

abbrev pub is_t : ℕ → Bool
is_t c = c == 116

-- the parts of a clock time
abbrev pub before_point : List ℕ → List ℕ
before_point text = before_first is_point (before_first is_t text)

abbrev pub fraction_of : List ℕ → List ℕ
fraction_of text = after_first is_point (before_first is_t text)

abbrev pub tail_of : List ℕ → List ℕ
tail_of text = after_first is_t text

abbrev pub components_of : List ℕ → List (List ℕ)
components_of text = slice_split is_colon (before_point text)

-- at most eighteen digits, and nothing else
abbrev pub is_short : List ℕ → Bool
is_short ds = all_ascii_digits ds && nat_lt (length ds) 19

-- the seconds of hours, minutes and seconds, of minutes and seconds, or of seconds
abbrev pub seconds_of : List (List ℕ) → ℕ
seconds_of components = fold (λ seconds component. 60 * seconds + digits_value 10 component) 0 components

-- seconds and a fraction of a second in frames, to the nearest
abbrev pub clock_frames_of : ℕ → ℕ → ℕ → ℕ → ℕ
clock_frames_of rate seconds fraction places =
    nearest_natural ((seconds * 10 ^ places + fraction) * rate) (10 ^ places)

-- that number, or the fault that it is too far
abbrev pub within_reach : ℕ → Result ℕ TimeFault
within_reach frames = if nat_lt (2 ^ 40) frames then Err TooFar else Ok frames

-- the form of a clock time: one to three components, a digit in these or in the fraction, and nothing after a `t`
abbrev pub has_clock_form : List ℕ → Bool
has_clock_form text =
    list_all is_short (components_of text)
    && is_short (fraction_of text)
    && nat_lt (length (components_of text)) 4
    && nat_lt 0 (sum_by length (components_of text) + length (fraction_of text))
    && (length (tail_of text) == 0)

-- the frames of a clock time, or its first fault
abbrev pub clock_of : ℕ → List ℕ → Result ℕ TimeFault
clock_of rate text =
    if has_clock_form text
    then within_reach
    (clock_frames_of rate (seconds_of (components_of text)) (digits_value 10 (fraction_of text)) (length (fraction_of text)))
    else Err BadTime
