-- A product over the modulus, by the quotient of one of its factors: w times the factor v over p is q, and q times n over w is t.
use Rattle.std.proofs.Common.{◌≡◌, ap, ◌+◌, ◌*◌, ◌/◌, ◌^◌, ◌<◌, ◌≤◌, ℕ, arith, inl, inr}
use Rattle.std.proofs.Math.Nat.{div-add-mod, mod-lt}
use Rattle.std.proofs.lemmas.Bool.{cases_lt}
use Rattle.std.proofs.lemmas.Nat.{mul-le}

pub quotient_low : (w p v q n t : ℕ) → 0 < w → q * p ≤ v * w → t * w ≤ q * n → t * p ≤ v * n
quotient_low w p v q n t some first second = elim (cases_lt (v * n) (t * p)) [
  | inl over ↦
      let p_self : p ≤ p = omega arith in
      let n_self : n ≤ n = omega arith in
      let w_self : w ≤ w = omega arith in
      let one : q * p * n ≤ v * w * n = mul-le (q * p) n (v * w) n first n_self in
      let two : t * w * p ≤ q * n * p = mul-le (t * w) p (q * n) p second p_self in
      let more : v * n + 1 ≤ t * p = omega arith in
      let three : (v * n + 1) * w ≤ t * p * w = mul-le (v * n + 1) w (t * p) w more w_self in
      absurd (omega arith)
  | inr not ↦ omega arith
]

pub quotient_high : (w p v q n t : ℕ) → 0 < p → v * w < q * p + p → q * n < t * w + w → n < w → v * n < t * p + 2 * p
quotient_high w p v q n t some first second bound = elim (cases_lt (v * n) (t * p + 2 * p)) [
  | inl below ↦ below
  | inr not ↦
      let p_self : p ≤ p = omega arith in
      let n_self : n ≤ n = omega arith in
      let w_self : w ≤ w = omega arith in
      let first_le : v * w ≤ q * p + p = omega arith in
      let second_le : q * n + 1 ≤ t * w + w = omega arith in
      let max_le : n + 1 ≤ w = omega arith in
      let over : t * p + 2 * p ≤ v * n = omega arith in
      let one : v * w * n ≤ (q * p + p) * n = mul-le (v * w) n (q * p + p) n first_le n_self in
      let two : (q * n + 1) * p ≤ (t * w + w) * p = mul-le (q * n + 1) p (t * w + w) p second_le p_self in
      let three : (t * p + 2 * p) * w ≤ v * n * w = mul-le (t * p + 2 * p) w (v * n) w over w_self in
      let four : (n + 1) * p ≤ w * p = mul-le (n + 1) p w p max_le p_self in
      absurd (omega arith)
]

-- and with 2^32
pub product_low : (p v n q : ℕ) → (v * 2 ^ 32) / p ≡ q → (q * n) / 2 ^ 32 * p ≤ v * n
product_low p v n q is =
    let whole = div-add-mod (v * 2 ^ 32) p in
    let first : p * ((v * 2 ^ 32) / p) ≡ p * q = ap (λ z. p * z) is in
    let second = div-add-mod (q * n) (2 ^ 32) in
    quotient_low (2 ^ 32) p v q n ((q * n) / 2 ^ 32) (omega arith) (omega arith) (omega arith)

pub product_high : (p v n q : ℕ) → 0 < p → (v * 2 ^ 32) / p ≡ q → n < 2 ^ 32 → v * n < (q * n) / 2 ^ 32 * p + 2 * p
product_high p v n q some is bound =
    let whole = div-add-mod (v * 2 ^ 32) p in
    let first : p * ((v * 2 ^ 32) / p) ≡ p * q = ap (λ z. p * z) is in
    let less = mod-lt (v * 2 ^ 32) some in
    let second = div-add-mod (q * n) (2 ^ 32) in
    quotient_high (2 ^ 32) p v q n ((q * n) / 2 ^ 32) some (omega arith) (omega arith) bound
