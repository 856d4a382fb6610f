-- A number over a power of ten, where that is whole.
use Rattle.std.proofs.Common.{length-append, Bool, true, List, ◌++◌, length, ◌≡◌, ℕ, zero, suc, ◌+◌, ◌-◌, ◌*◌, ◌/◌, ◌%◌, ◌^◌, ◌<◌, ◌≤◌, false, ap, ◌∙◌, sym, refl, arith, Err, min, not, ◌&&◌, ◌||◌, nat_lt, ◌==◌, if◌then◌else◌}
use Rattle.std.proofs.Math.Nat.{mul-mod_left, mul-div_left, mul-le-mul_left, mul-div-mul_right, div-add-mod', zero-mul, mod-eq_of_lt}
use Rattle.std.proofs.lemmas.Nat.{mod-mul-add, mod_below, pow-add}
use Rattle.std.proofs.lemmas.Bool.{and_from, and_parts, lt-ltb}
use Rattle.std.proofs.lemmas.Bool.Decides.{nat_tests}
use Rattle.fx_fixed.specs.Clock.{within_reach}
use Rattle.fx_fixed.specs.Count.{count_of, is_count, whole_of}
use Rattle.fx_fixed.specs.Decimals.{exponent_size, exponent_text, fraction_digits, is_decimal, is_mark, is_negative, is_numeral, lowered_by, raised_by, unsigned, whole_digits}
use Rattle.fx_fixed.specs.Shown.{Shows}
use Rattle.fx_fixed.specs.declared.number.Decimal.{Decimal}
use Rattle.fx_fixed.specs.declared.times.TimeFault.TheVariants.{NotWhole, TooFar}
use Rattle.std.specs.Str.{all_ascii_digits}
use Rattle.std.specs.Str.Parse.{digits_value}
use Rattle.std.specs.List.{list_any}
use Rattle.std.proofs.lemmas.Str.Parse.{digits_value_short, numerals_by_value, tells_all_ascii_digits}
use Rattle.fx_fixed.proofs.Cutting.{all_ascii_digits-append}
use Rattle.fx_fixed.proofs.Parting.{after_first-none}
use Rattle.fx_fixed.proofs.Powers.{power_at_most, power_positive}

-- a common factor of a remainder
mod-cancel : (n p c : ℕ) → 0 < p → 0 < c → (n * c) % (p * c) ≡ n % p * c
mod-cancel n p c p_positive c_positive =
    let parts = div-add-mod' n p in
    let small = mod_below n p p_positive in
    let fits : n % p * c < p * c = grind arith in
    let whole : n * c ≡ n / p * (p * c) + n % p * c = ap (λ m. m * c) (sym parts) ∙ omega arith in
    ap (λ m. m % (p * c)) whole ∙ mod-mul-add (n / p) (p * c) (n % p * c) fits

times_is_none : (m c : ℕ) → 0 < c → (m * c == 0) ≡ (m == 0)
times_is_none zero c positive = rw (zero-mul c) refl
times_is_none (suc m) c positive = grind (arith, nat_tests)

pub raised_whole : (n raised lowered : ℕ) → lowered ≤ raised → whole_of n raised lowered ≡ within_reach (n * 10 ^ (raised - lowered))
raised_whole n raised lowered order =
    let places : raised ≡ raised - lowered + lowered = omega arith in
    let power : n * 10 ^ raised ≡ n * 10 ^ (raised - lowered) * 10 ^ lowered = ap (λ k. n * 10 ^ k) places ∙ ap (λ p. n * p) (pow-add 10 (raised - lowered) lowered) ∙ omega arith in
    let none = mul-mod_left (n * 10 ^ (raised - lowered)) (10 ^ lowered) in
    let back = mul-div_left (n * 10 ^ (raised - lowered)) (power_positive lowered) in
    rw (power, none, back) refl

pub lowered_whole : (n raised lowered : ℕ) → raised < lowered → whole_of n raised lowered ≡ (if n % 10 ^ (lowered - raised) == 0 then within_reach (n / 10 ^ (lowered - raised)) else Err NotWhole)
lowered_whole n raised lowered order =
    let places : lowered ≡ lowered - raised + raised = omega arith in
    let power : 10 ^ lowered ≡ 10 ^ (lowered - raised) * 10 ^ raised = ap (λ k. 10 ^ k) places ∙ pow-add 10 (lowered - raised) raised in
    let rest = mod-cancel n (10 ^ (lowered - raised)) (10 ^ raised) (power_positive (lowered - raised)) (power_positive raised) in
    let test = times_is_none (n % 10 ^ (lowered - raised)) (10 ^ raised) (power_positive raised) in
    let quotient = mul-div-mul_right n (10 ^ (lowered - raised)) (power_positive raised) in
    rw (power, rest, test, quotient) refl

pub ruleset whole_numbers = (raised_whole, lowered_whole)

pub far_raised : (n raised lowered : ℕ) → 0 < n → lowered ≤ raised → 12 < raised - lowered → whole_of n raised lowered ≡ Err TooFar
far_raised n raised lowered some order far =
    let power = power_at_most 13 (raised - lowered) far in
    let more : 2 ^ 40 < n * 10 ^ (raised - lowered) = omega (arith, mul-le-mul_left (10 ^ (raised - lowered)) some) in
    raised_whole n raised lowered order ∙ rw (lt-ltb (2 ^ 40) (n * 10 ^ (raised - lowered)) more) refl

pub far_number : (n raised lowered : ℕ) → 2 ^ 40 < n → lowered ≤ raised → whole_of n raised lowered ≡ Err TooFar
far_number n raised lowered large order =
    let power = power_positive (raised - lowered) in
    let more : 2 ^ 40 < n * 10 ^ (raised - lowered) = omega (arith, mul-le-mul_left n power) in
    raised_whole n raised lowered order ∙ rw (lt-ltb (2 ^ 40) (n * 10 ^ (raised - lowered)) more) refl

pub far_lowered : (n raised lowered : ℕ) → 0 < n → n < 10 ^ 36 → raised < lowered → 36 < lowered - raised → whole_of n raised lowered ≡ Err NotWhole
far_lowered n raised lowered some small order far =
    let power = power_at_most 36 (lowered - raised) (omega arith) in
    let rest : n % 10 ^ (lowered - raised) ≡ n = mod-eq_of_lt (omega arith) in
    let test : (n == 0) ≡ false = grind (arith, nat_tests) in
    lowered_whole n raised lowered order ∙ rw (rest, test) refl

-- ---- the same of what was read

-- the value of few digits
digits_below : (ds : List ℕ) (k : ℕ) → all_ascii_digits ds ≡ true → length ds ≤ k → digits_value 10 ds < 10 ^ k
digits_below ds k all short = digits_value_short (numerals_by_value (λ ds. all_ascii_digits ds ≡ true) tells_all_ascii_digits) ds k all short

-- where the value is small, no digit was dropped
kept_whole : (kept dropped lost value : ℕ) → value ≡ kept * 10 ^ dropped + lost → lost < 10 ^ dropped → (0 < dropped → 10 ^ 37 ≤ kept) → value < 10 ^ 36 → kept ≡ value
kept_whole kept zero lost value value_is bound large small = omega arith
kept_whole kept (suc dropped) lost value value_is bound large small =
    let many = large (omega arith) in
    absurd (omega (arith, mul-le-mul_left kept (power_positive (suc dropped))))

-- an exponent of two digits is below a hundred
exponent_small : (text : List ℕ) → (not (list_any is_mark text) || is_numeral (unsigned (exponent_text text))) ≡ true → length (unsigned (exponent_text text)) ≤ 2 → exponent_size text < 100
exponent_small text form short = go (list_any is_mark text) refl where
  go : (b : Bool) → list_any is_mark text ≡ b → exponent_size text < 100
  go false none =
      let nothing : exponent_size text ≡ 0 = ap (λ xs. digits_value 10 (unsigned xs)) (after_first-none is_mark text none) in
      omega (arith, nothing)
  go true some =
      let numeral : is_numeral (unsigned (exponent_text text)) ≡ true = rw some at form in
      let all = (and_parts (nat_lt 0 (length (unsigned (exponent_text text)))) (all_ascii_digits (unsigned (exponent_text text))) numeral).1 in
      digits_below (unsigned (exponent_text text)) 2 all short

-- an exponent that is not capped
raised_small : (text : List ℕ) → exponent_size text < 100 → (raised_by text < 100) × (lowered_by text < 100)
raised_small text small = go (is_negative (exponent_text text)) refl where
  go : (b : Bool) → is_negative (exponent_text text) ≡ b → (raised_by text < 100) × (lowered_by text < 100)
  go true minus = (rw minus (omega arith), rw minus small)
  go false plus = (rw plus small, rw plus (omega arith))

not_capped : (n m : ℕ) → n ≡ min m 100 → m < 100 → n ≡ m
not_capped n m is small = omega arith

-- what was read of a sample count
pub record Counted (number : Decimal) (text : List ℕ) : Type 0 where
  pub small : number.digits.kept < 10 ^ 36
  pub value : whole_of number.digits.kept number.raised (number.places + number.lowered) ≡ count_of text

pub counted : (number : Decimal) (text : List ℕ) → is_decimal text ≡ true → Shows number text → number.whole ≤ 18 → number.places ≤ 18 → number.exponent_digits ≤ 2 → Counted number text
counted number text form shown whole_max places_max exponent_max =
    let whole = whole_digits text in
    let fraction = fraction_digits text in
    let parts = and_parts (all_ascii_digits whole && all_ascii_digits fraction && nat_lt 0 (length whole + length fraction)) (not (list_any is_mark text) || is_numeral (unsigned (exponent_text text))) form in
    let digits = and_parts (all_ascii_digits whole) (all_ascii_digits fraction) (and_parts (all_ascii_digits whole && all_ascii_digits fraction) (nat_lt 0 (length whole + length fraction)) parts.0).0 in
    let all : all_ascii_digits (whole ++ fraction) ≡ true = all_ascii_digits-append whole fraction digits.0 ∙ digits.1 in
    let whole_size : length whole < 19 = omega (arith, shown.whole) in
    let fraction_size : length fraction < 19 = omega (arith, shown.places) in
    let exponent_size : length (unsigned (exponent_text text)) < 3 = omega (arith, shown.exponent_digits) in
    let size : length (whole ++ fraction) ≤ 36 = simp length-append (omega arith) in
    let bound : digits_value 10 (whole ++ fraction) < 10 ^ 36 = digits_below (whole ++ fraction) 36 all size in
    let kept = kept_whole number.digits.kept number.digits.dropped shown.digits.lost (digits_value 10 (whole ++ fraction)) shown.digits.value shown.digits.lost_max shown.digits.large bound in
    let exponents = raised_small text (exponent_small text parts.1 (omega arith)) in
    let raised = not_capped number.raised (raised_by text) shown.raised exponents.0 in
    let lowered = not_capped number.lowered (lowered_by text) shown.lowered exponents.1 in
    record {
      small = rw kept bound;
      value = rw (kept, raised, lowered, shown.places) (sym (count_form text form (lt-ltb (length whole) 19 whole_size) (lt-ltb (length fraction) 19 fraction_size) (lt-ltb (length (unsigned (exponent_text text))) 3 exponent_size)));
    }
  where
    count_form : (text : List ℕ) → is_decimal text ≡ true → nat_lt (length (whole_digits text)) 19 ≡ true → nat_lt (length (fraction_digits text)) 19 ≡ true → nat_lt (length (unsigned (exponent_text text))) 3 ≡ true →
        count_of text ≡ whole_of (digits_value 10 (whole_digits text ++ fraction_digits text)) (raised_by text) (length (fraction_digits text) + lowered_by text)
    count_form text form whole fraction exponent =
        let passes : is_count text ≡ true = and_from (is_decimal text && nat_lt (length (whole_digits text)) 19 && nat_lt (length (fraction_digits text)) 19) (nat_lt (length (unsigned (exponent_text text))) 3)
        (and_from (is_decimal text && nat_lt (length (whole_digits text)) 19) (nat_lt (length (fraction_digits text)) 19) (and_from (is_decimal text) (nat_lt (length (whole_digits text)) 19) form whole) fraction) exponent in
        rw passes refl
