-- Decimal numbers as text, by this project's profile: cut at their separators.
use Rattle.std.specs.Prelude.{ℕ, ◌+◌, ◌*◌, ◌^◌, ◌==◌, nat_lt, Bool, false, not, ◌&&◌, ◌||◌, if◌then◌else◌, List, [], ◌∷◌, ◌++◌, length}
use Rattle.std.specs.List.{before_first, after_first, list_any}
use Rattle.std.specs.Str.{all_ascii_digits}
use Rattle.std.specs.Str.Parse.{digits_value}
use Rattle.fx_fixed.specs.Rounding.{nearest_natural}

-- a plus or a minus, a point, an `e` or an `E`
abbrev pub is_sign : ℕ → Bool
is_sign c = (c == 43) || (c == 45)

abbrev pub is_point : ℕ → Bool
is_point c = c == 46

abbrev pub is_mark : ℕ → Bool
is_mark c = (c == 101) || (c == 69)

-- a text begins with a minus
abbrev pub is_negative : List ℕ → Bool
is_negative [] = false
is_negative (c ∷ cs) = c == 45

-- a text without its sign
abbrev pub unsigned : List ℕ → List ℕ
unsigned [] = []
unsigned (c ∷ cs) = if is_sign c then cs else c ∷ cs

-- the parts of an unsigned decimal number
abbrev pub whole_digits : List ℕ → List ℕ
whole_digits body = before_first is_point (before_first is_mark body)

abbrev pub fraction_digits : List ℕ → List ℕ
fraction_digits body = after_first is_point (before_first is_mark body)

abbrev pub exponent_text : List ℕ → List ℕ
exponent_text body = after_first is_mark body

-- one digit or more, and nothing else
abbrev pub is_numeral : List ℕ → Bool
is_numeral ds = nat_lt 0 (length ds) && all_ascii_digits ds

-- the form of an unsigned decimal number
abbrev pub is_decimal : List ℕ → Bool
is_decimal body =
    all_ascii_digits (whole_digits body)
    && all_ascii_digits (fraction_digits body)
    && nat_lt 0 (length (whole_digits body) + length (fraction_digits body))
    && (not (list_any is_mark body) || is_numeral (unsigned (exponent_text body)))

-- how large the exponent is
abbrev pub exponent_size : List ℕ → ℕ
exponent_size body = digits_value 10 (unsigned (exponent_text body))

-- by how many places the exponent raises a number, and by how many it lowers it
abbrev pub raised_by : List ℕ → ℕ
raised_by body = if is_negative (exponent_text body) then 0 else exponent_size body

abbrev pub lowered_by : List ℕ → ℕ
lowered_by body = if is_negative (exponent_text body) then exponent_size body else 0

-- the number that the digits of the mantissa make, the point left out
abbrev pub mantissa_of : List ℕ → ℕ
mantissa_of body = digits_value 10 (whole_digits body ++ fraction_digits body)

-- an unsigned decimal number, counted in fractions of one and rounded, halves up
abbrev pub parts_of : ℕ → List ℕ → ℕ
parts_of units body =
    nearest_natural (mantissa_of body * 10 ^ raised_by body * units)
    (10 ^ length (fraction_digits body) * 10 ^ lowered_by body)
