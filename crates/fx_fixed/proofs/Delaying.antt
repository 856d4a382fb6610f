-- Delays that were read.
use Rattle.std.proofs.Common.{inl, inr, ◌⊎◌, ◌≡◌, ℕ, ◌+◌, ◌*◌, ◌^◌, ◌<◌, ◌≤◌, Bool, true, false, ◌&&◌, List, length, min, refl, arith, Err, nat_lt}
use Rattle.std.proofs.lemmas.Bool.{le-ltb, lt-ltb}
use Rattle.std.proofs.lemmas.Nat.{le-div}
use Rattle.std.proofs.Math.Nat.{mul-le-mul_left}
use Rattle.fx_fixed.specs.Clock.{within_reach}
use Rattle.fx_fixed.specs.Decimals.{exponent_size, exponent_text, is_decimal, is_negative, lowered_by, parts_of, raised_by, unsigned}
use Rattle.fx_fixed.specs.Delays.{delay_of, millis_of}
use Rattle.fx_fixed.specs.Shown.{Shows}
use Rattle.fx_fixed.specs.declared.number.Decimal.{Decimal}
use Rattle.fx_fixed.specs.declared.times.TimeFault.TheVariants.{TooFar}

-- at any rate, more billionths than these are too far
pub too_far : (rate billionths : ℕ) → 0 < rate → (2 ^ 40 + 1) * 10 ^ 12 < billionths → within_reach (delay_of rate billionths) ≡ Err TooFar
too_far rate billionths some many =
    let product : billionths ≤ billionths * rate = omega (arith, mul-le-mul_left billionths some) in
    let frames = le-div (2 ^ 40 + 1) (billionths * rate) (1000 * 10 ^ 9) (omega arith) (omega arith) in
    let far : 2 ^ 40 < delay_of rate billionths = omega arith in
    rw (lt-ltb (2 ^ 40) (delay_of rate billionths) far) refl

exponent_bound : (number : Decimal) (body : List ℕ) → Shows number body → number.raised ≤ 30 → number.lowered ≤ 30 → exponent_size body ≤ 30
exponent_bound number body shown raised lowered = go (is_negative (exponent_text body)) refl where
  capped : (n m size : ℕ) → n ≡ min m 100 → n ≤ 30 → m ≡ size → size ≤ 30
  capped n m size n_is bound m_is = omega arith

  go : (b : Bool) → is_negative (exponent_text body) ≡ b → exponent_size body ≤ 30
  go true minus = capped number.lowered (lowered_by body) (exponent_size body) shown.lowered lowered (rw minus refl)
  go false plus = capped number.raised (raised_by body) (exponent_size body) shown.raised raised (rw plus refl)

-- a delay of the right form, and not below zero
millis_read : (rate : ℕ) (text : List ℕ) (number : Decimal) → length text ≤ 40 → is_decimal (unsigned text) ≡ true → Shows number (unsigned text) → number.raised ≤ 30 → number.lowered ≤ 30 →
    (is_negative text && nat_lt 0 (parts_of (10 ^ 9) (unsigned text))) ≡ false → millis_of rate text ≡ within_reach (delay_of rate (parts_of (10 ^ 9) (unsigned text)))
millis_read rate text number short form shown raised lowered sign =
    let bound : nat_lt 40 (length text) ≡ false = le-ltb 40 (length text) short in
    let near : nat_lt 30 (exponent_size (unsigned text)) ≡ false = le-ltb 30 (exponent_size (unsigned text)) (exponent_bound number (unsigned text) shown raised lowered) in
    rw (bound, form, near, sign) refl

not_below : (sign : Bool) (parts : ℕ) → ((sign ≡ true) × (parts ≤ 0)) ⊎ (sign ≡ false) → (sign && nat_lt 0 parts) ≡ false
not_below sign parts (inl none) = rw (none.0, le-ltb 0 parts none.1) refl
not_below sign parts (inr plus) = rw plus refl

pub millis_plain : (rate : ℕ) (text body : List ℕ) (sign : Bool) (number : Decimal) → sign ≡ is_negative text → body ≡ unsigned text → length text ≤ 40 → is_decimal body ≡ true → Shows number body → number.raised ≤ 30 → number.lowered ≤ 30 →
    ((sign ≡ true) × (parts_of (10 ^ 9) body ≤ 0)) ⊎ (sign ≡ false) → millis_of rate text ≡ within_reach (delay_of rate (parts_of (10 ^ 9) body))
millis_plain rate text body sign number sign_is body_is short form shown raised lowered cases =
    let below = not_below sign (parts_of (10 ^ 9) body) cases in
    rw body_is (millis_read rate text number short (rw body_is at form) (rw body_is at shown) raised lowered (rw (sign_is, body_is) at below))
