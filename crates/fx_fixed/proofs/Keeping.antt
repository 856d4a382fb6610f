-- One digit more in a bounded sum.
use Rattle.std.proofs.Common.{◌≡◌, ℕ, ◌+◌, ◌-◌, ◌*◌, ◌^◌, ◌<◌, ◌≤◌, List, [], ◌∷◌, ◌++◌, ap, ◌∙◌, refl, arith, IsTrue, add-one, length, take, get_or}
use Rattle.std.specs.Char.{is_ascii_digit, digit_value}
use Rattle.std.specs.Str.Parse.{digits_value}
use Rattle.std.proofs.lemmas.Int.Digits.{digits_value_push, digits_value_more}
use Rattle.std.proofs.lemmas.Bool.Decides.{nat_tests}
use Rattle.std.proofs.Math.Nat.{pow-suc}
use Rattle.fx_fixed.specs.declared.sums.Digits.{Digits}
use Rattle.fx_fixed.specs.Kept.{Keeps}

pub digit_value-of_digit : (c : ℕ) → IsTrue (is_ascii_digit c) → digit_value c ≡ c - 48
digit_value-of_digit c h = grind (arith, nat_tests)

pub digit_value-small : (c : ℕ) → IsTrue (is_ascii_digit c) → c - 48 < 10
digit_value-small c h = grind (arith, nat_tests)

-- the value after one digit more
pub digits_value-push_digit : (ds : List ℕ) (c : ℕ) → IsTrue (is_ascii_digit c) → digits_value 10 (ds ++ c ∷ []) ≡ digits_value 10 ds * 10 + (c - 48)
digits_value-push_digit ds c digit = digits_value_push 10 ds c ∙ ap (λ d. digits_value 10 ds * 10 + d) (digit_value-of_digit c digit)

pub keeps_dropping : (sum after : Digits) (ds : List ℕ) (c : ℕ) → IsTrue (is_ascii_digit c) → 10 ^ 37 ≤ sum.kept →
    after.kept ≡ sum.kept → after.dropped ≡ sum.dropped + 1 → Keeps sum ds → Keeps after (ds ++ c ∷ [])
keeps_dropping sum after ds c digit large kept_is dropped_is keeps =
    let small = digit_value-small c digit in
    let power : 10 ^ after.dropped ≡ 10 ^ sum.dropped * 10 = rw (dropped_is, add-one, pow-suc) refl in
    let value = keeps.value in
    let bound = keeps.lost_max in
    let written : digits_value 10 ds * 10 + (c - 48) ≡ after.kept * 10 ^ after.dropped + (keeps.lost * 10 + (c - 48)) = rw (value, power, kept_is) (omega arith) in
    let lost_below : keeps.lost * 10 + (c - 48) < 10 ^ after.dropped = rw power (omega arith) in
    record {
      lost = keeps.lost * 10 + (c - 48);
      value = digits_value-push_digit ds c digit ∙ written;
      lost_max = lost_below;
      large = λ _. rw kept_is large;
    }

pub keeps_adding : (sum after : Digits) (ds : List ℕ) (c : ℕ) → IsTrue (is_ascii_digit c) → sum.kept < 10 ^ 37 →
    after.kept ≡ sum.kept * 10 + (c - 48) → after.dropped ≡ sum.dropped → Keeps sum ds → Keeps after (ds ++ c ∷ [])
keeps_adding sum after ds c digit small kept_is dropped_is keeps =
    let large = keeps.large in
    let value = keeps.value in
    let bound = keeps.lost_max in
    let whole : sum.dropped ≡ 0 = grind arith in
    let whole_after : after.dropped ≡ 0 = dropped_is ∙ whole in
    let max_then = rw whole at bound in
    let value_then = rw whole at value in
    let written : digits_value 10 ds * 10 + (c - 48) ≡ after.kept * 10 ^ after.dropped + 0 = rw (value_then, whole_after, kept_is) (omega arith) in
    let lost_below : 0 < 10 ^ after.dropped = rw whole_after (omega arith) in
    record {
      lost = 0;
      value = digits_value-push_digit ds c digit ∙ written;
      lost_max = lost_below;
      large = λ some. absurd (omega arith);
    }

pub ruleset one_digit_more = (keeps_dropping, keeps_adding)

-- the value of the digits so far, one digit on
pub digits_value-more_digit : (bs : List ℕ) (i : ℕ) → i < length bs → IsTrue (is_ascii_digit (get_or bs i 0)) → digits_value 10 (take (i + 1) bs) ≡ digits_value 10 (take i bs) * 10 + (get_or bs i 0 - 48)
digits_value-more_digit bs i in_range digit =
    digits_value_more 10 bs i in_range ∙ ap (λ d. digits_value 10 (take i bs) * 10 + d) (digit_value-of_digit (get_or bs i 0) digit)
