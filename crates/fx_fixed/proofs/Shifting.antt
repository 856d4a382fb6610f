-- Rounding of a number of which only the first digits were kept. Plain numbers alone.
use Rattle.std.proofs.Common.{◌≡◌, ℕ, ◌+◌, ◌*◌, ◌/◌, ◌<◌, ◌≤◌, ap, ◌∙◌, sym, refl, arith}
use Rattle.std.proofs.Math.Nat.{mul-div-mul_right, div-div-eq-div-mul, mul-add-div_right, div-eq_of_lt}
use Rattle.std.proofs.lemmas.Nat.{le-div, div_below}
use Rattle.fx_fixed.specs.Rounding.{nearest_natural}

-- a common factor goes
pub nearest_natural-cancel : (n q c : ℕ) → 0 < c → nearest_natural (n * c) (q * c) ≡ nearest_natural n q
nearest_natural-cancel n q c positive =
    let above : 2 * (n * c) + q * c ≡ (2 * n + q) * c = omega arith in
    let below : 2 * (q * c) ≡ 2 * q * c = omega arith in
    rw (above, below) (mul-div-mul_right (2 * n + q) (2 * q) positive)

-- twice as much and perhaps one more, over twice as much
half_step : (n q b : ℕ) → b < 2 → (2 * n + b) / (2 * q) ≡ n / q
half_step n q b small =
    let half : (2 * n + b) / 2 ≡ n = omega arith in
    sym (div-div-eq-div-mul (2 * n + b) 2 q) ∙ ap (λ m. m / q) half

-- digits that are lost don't change what is rounded at a higher place
pub nearest_natural-lost : (kept lost h p : ℕ) → lost < p → nearest_natural (kept * p + lost) (2 * h * p) ≡ nearest_natural kept (2 * h)
nearest_natural-lost kept lost h p bound =
    let positive : 0 < p = omega arith in
    let above : 2 * (kept * p + lost) + 2 * h * p ≡ 2 * (kept + h) * p + 2 * lost = omega arith in
    let below : 2 * (2 * h * p) ≡ p * (2 * (2 * h)) = omega arith in
    let carry = div_below (2 * lost) p 2 positive (omega arith) in
    let split = mul-add-div_right positive (2 * (kept + h)) (2 * lost) in
    let whole : (2 * (kept * p + lost) + 2 * h * p) / (2 * (2 * h * p)) ≡ (2 * (kept + h) + 2 * lost / p) / (2 * (2 * h)) =
    rw (above, below, ← div-div-eq-div-mul (2 * (kept + h) * p + 2 * lost) p (2 * (2 * h)), split) refl in
    let even : 2 * kept + 2 * h ≡ 2 * (kept + h) + 0 = omega arith in
    whole ∙ half_step (kept + h) (2 * h) (2 * lost / p) carry ∙ sym (rw even (half_step (kept + h) (2 * h) 0 (omega arith)))

-- no fraction
pub nearest_natural-one : (n : ℕ) → nearest_natural n 1 ≡ n
nearest_natural-one n = omega arith

-- at least so much
pub le-nearest_natural : (n q m : ℕ) → 0 < q → m * q ≤ n → m ≤ nearest_natural n q
le-nearest_natural n q m positive below = le-div m (2 * n + q) (2 * q) (omega arith) (omega arith)

-- less than a half
pub nearest_natural-small : (n q : ℕ) → 2 * n < q → nearest_natural n q ≡ 0
nearest_natural-small n q small = div-eq_of_lt (omega arith)
