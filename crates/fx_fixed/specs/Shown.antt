-- What was read of a decimal number.
use Rattle.std.specs.Prelude.{ℕ, ◌≡◌, ◌&&◌, Bool, true, List, [], ◌∷◌, ◌++◌, length, min, ⊤, false}
use Rattle.fx_fixed.specs.declared.number.Decimal.{Decimal}
use Rattle.fx_fixed.specs.declared.sums.Digits.{Digits}
use Rattle.fx_fixed.specs.Decimals.{exponent_text, fraction_digits, is_mark, is_numeral, is_point, lowered_by, raised_by, unsigned, whole_digits}
use Rattle.fx_fixed.specs.Kept.{Keeps}

-- a text does not begin with a point
abbrev pub HasNoPoint : List ℕ → Type 0
HasNoPoint [] = ⊤
HasNoPoint (c ∷ cs) = is_point c ≡ false

-- what may follow the digits of a number: nothing, or a mark and an exponent
abbrev pub is_end : List ℕ → Bool
is_end [] = true
is_end (c ∷ cs) = is_mark c && is_numeral (unsigned cs)

-- a number of those digits, with these counts before and after the point, and of the exponent of that text
pub record Ends (number : Decimal) (sum : Digits) (before_point after_point : ℕ) (rest : List ℕ) : Type 0 where
  pub digits : number.digits ≡ sum
  pub whole : number.whole ≡ before_point
  pub places : number.places ≡ after_point
  pub exponent_digits : number.exponent_digits ≡ length (unsigned (exponent_text rest))
  pub raised : number.raised ≡ min (raised_by rest) 100
  pub lowered : number.lowered ≡ min (lowered_by rest) 100

-- the number that an unsigned text is
pub record Shows (number : Decimal) (body : List ℕ) : Type 0 where
  pub digits : Keeps number.digits (whole_digits body ++ fraction_digits body)
  pub whole : number.whole ≡ length (whole_digits body)
  pub places : number.places ≡ length (fraction_digits body)
  pub exponent_digits : number.exponent_digits ≡ length (unsigned (exponent_text body))
  pub raised : number.raised ≡ min (raised_by body) 100
  pub lowered : number.lowered ≡ min (lowered_by body) 100
