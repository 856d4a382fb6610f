-- A bounded sum of digits.
use Rattle.std.specs.Prelude.{ℕ, ◌+◌, ◌*◌, ◌^◌, ◌<◌, ◌≤◌, ◌≡◌, List}
use Rattle.std.specs.Str.Parse.{digits_value}
use Rattle.fx_fixed.specs.declared.sums.Digits.{Digits}

-- All digits are kept, except last ones that are dropped only once the kept ones are large.
pub record Keeps (sum : Digits) (ds : List ℕ) : Type 0 where
  pub lost : ℕ
  pub value : digits_value 10 ds ≡ sum.kept * 10 ^ sum.dropped + lost
  pub lost_max : lost < 10 ^ sum.dropped
  pub large : 0 < sum.dropped → 10 ^ 37 ≤ sum.kept
