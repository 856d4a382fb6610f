-- A sum rounded by whole steps.
use Rattle.std.proofs.Common.{rules, ◌≡◌, ℕ, suc, ◌+◌, ◌-◌, ◌*◌, ◌/◌, ◌%◌, ◌<◌, ◌≤◌, ap, ◌∙◌, refl, sym, arith, ℤ, pos, negsuc, neg_ℤ, ◌+ℤ◌, ◌*ℤ◌, Bool, true, false, cond, nat_lt}
use Rattle.std.proofs.Math.Nat.{mul-add-div, div-eq_of_lt, div-add-mod'}
use Rattle.std.proofs.lemmas.Bool.Decides.{nat_tests}
use Rattle.fx_tap_pointwise.specs.DcShift.{units_of}
use Rattle.fx_tap_pointwise.specs.DcShiftState.{floor_of, over_of, steps_of}
use Rattle.std.proofs.lemmas.Int.{ints}
use Rattle.fx_fixed.specs.Rounding.{nearest_natural, nearest, signed}
use Rattle.fx_fixed.specs.declared.gains.TheConstants.{UNIT}
use Rattle.fx_fixed.proofs.Signs.{nearest-neg}
use Rattle.fx_tap_sums.proofs.Numbers.{add-mul}

-- a quotient whose rest is known
quotient-is : (n u k rest : ℕ) → rest < u → n ≡ u * k + rest → n / u ≡ k
quotient-is n u k rest h e =
    let some : 0 < u = omega arith in
    let none : rest / u ≡ 0 = div-eq_of_lt h in
    ap (λ m. m / u) e ∙ mul-add-div some k rest ∙ (let z : k + rest / u ≡ k = omega (arith, none) in z)

-- the nearest natural number of m whole ones and a part below the half, or from the half on
pub nearest_natural-below : (m r q : ℕ) → 2 * r < q → nearest_natural (m * q + r) q ≡ m
nearest_natural-below m r q h = quotient-is (2 * (m * q + r) + q) (2 * q) m (2 * r + q) (omega arith) (omega arith)

pub nearest_natural-above : (m r q : ℕ) → r < q → q ≤ 2 * r → nearest_natural (m * q + r) q ≡ m + 1
nearest_natural-above m r q l h = quotient-is (2 * (m * q + r) + q) (2 * q) (m + 1) (2 * r - q) (omega arith) (omega arith)

-- the same from above: a part is lacking
pub nearest_natural-lacks_little : (m r q : ℕ) → 0 < q → 2 * r ≤ q → nearest_natural ((m + 1) * q - r) q ≡ m + 1
nearest_natural-lacks_little m r q p h = quotient-is (2 * ((m + 1) * q - r) + q) (2 * q) (m + 1) (q - 2 * r) (omega arith) (omega arith)

pub nearest_natural-lacks_much : (m r q : ℕ) → r < q → q < 2 * r → nearest_natural ((m + 1) * q - r) q ≡ m
nearest_natural-lacks_much m r q l h = quotient-is (2 * ((m + 1) * q - r) + q) (2 * q) m (3 * q - 2 * r) (omega arith) (omega arith)

neg_ℤ-add : (a r : ℕ) → r ≤ a → neg_ℤ (pos a) +ℤ pos r ≡ neg_ℤ (pos (a - r))
neg_ℤ-add a r h = omega (arith, ints)

-- a negative number of whole ones and a part
sum-negative : (m r q : ℕ) → r < q → (negsuc m *ℤ pos q) +ℤ pos r ≡ neg_ℤ (pos ((m + 1) * q - r))
sum-negative m r q l =
    let e : suc m * q ≡ (m + 1) * q = omega arith in
    neg_ℤ-add (suc m * q) r (omega arith) ∙ ap (λ k. neg_ℤ (pos (k - r))) e

-- the nearest whole number, by how large the part is
pub nearest-down : (a : ℤ) (r q : ℕ) → 2 * r < q → nearest ((a *ℤ pos q) +ℤ pos r) q ≡ a
nearest-down (pos m) r q h = ap pos (nearest_natural-below m r q h)
nearest-down (negsuc m) r q h =
    let one : suc m ≡ m + 1 = omega arith in
    ap (λ z. nearest z q) (sum-negative m r q (omega arith)) ∙ nearest-neg ((m + 1) * q - r) q (omega arith) ∙ ap (signed true) (nearest_natural-lacks_little m r q (omega arith) (omega arith) ∙ sym one)

pub nearest-up : (a : ℤ) (r q : ℕ) → r < q → q < 2 * r → nearest ((a *ℤ pos q) +ℤ pos r) q ≡ a +ℤ pos 1
nearest-up (pos m) r q l h = ap pos (nearest_natural-above m r q l (omega arith))
nearest-up (negsuc m) r q l h =
    ap (λ z. nearest z q) (sum-negative m r q l) ∙ nearest-neg ((m + 1) * q - r) q (omega arith) ∙ ap (signed true) (nearest_natural-lacks_much m r q l h) ∙ (omega (arith, ints))

-- units as whole steps and what is beyond them
pub units-split : (q : ℕ) (units : ℤ) → 0 < q → units ≡ (floor_of q units *ℤ pos q) +ℤ pos (over_of q units)
units-split q (pos a) p = sym (ap pos (div-add-mod' a q))
units-split q (negsuc a) p =
    let l : a % q < q = omega arith in
    let d = div-add-mod' a q in
    let size : suc (a / q) * q ≡ a / q * q + q = omega arith in
    sym (neg_ℤ-add (suc (a / q) * q) (q - 1 - a % q) (omega arith) ∙ ap (λ k. neg_ℤ (pos k)) (let e : suc (a / q) * q - (q - 1 - a % q) ≡ suc a = omega arith in e))

pub over_of-below : (q : ℕ) (units : ℤ) → 0 < q → over_of q units < q
over_of-below q (pos a) p = omega arith
over_of-below q (negsuc a) p = omega arith

-- no whole number of trillionths is just between two steps: 2 ^ 12 goes into each of these, and not into half a step
none-between : (shift : ℤ) → 2 * over_of UNIT (units_of shift) ≡ UNIT → ⊥
none-between shift half =
    let split = units-split UNIT (units_of shift) (search rules) in
    omega (arith, ints, split, half)

-- the steps that a sum goes up by, once it is known how much is beyond
by_over : (a : ℤ) (over q : ℕ) (more : Bool) → over < q → (2 * over ≡ q → ⊥) → nat_lt q (2 * over) ≡ more → cond more (a +ℤ pos 1) a ≡ nearest ((a *ℤ pos q) +ℤ pos over) q
by_over a over q true l other m = sym (nearest-up a over q l (grind (arith, nat_tests)))
by_over a over q false l other m = sym (nearest-down a over q (grind (arith, nat_tests)))

-- a step more of a sum
sum-more : (sample floor : ℤ) (more : Bool) → sample +ℤ cond more (floor +ℤ pos 1) floor ≡ cond more ((sample +ℤ floor) +ℤ pos 1) (sample +ℤ floor)
sum-more sample floor true = omega (arith, ints)
sum-more sample floor false = refl

-- a sample and a shift by whole steps is the exact sum, rounded
pub added-steps : (shift sample : ℤ) → sample +ℤ steps_of UNIT (units_of shift) ≡ nearest ((sample *ℤ pos UNIT) +ℤ units_of shift) UNIT
added-steps shift sample =
    let units : ℤ = units_of shift in
    let some : 0 < UNIT = search rules in
    let floor : ℤ = floor_of UNIT units in
    let over : ℕ = over_of UNIT units in
    let exact : ((sample +ℤ floor) *ℤ pos UNIT) +ℤ pos over ≡ (sample *ℤ pos UNIT) +ℤ units =
    ap (λ z. z +ℤ pos over) (add-mul sample floor (pos UNIT)) ∙ (let assoc : ((sample *ℤ pos UNIT) +ℤ (floor *ℤ pos UNIT)) +ℤ pos over ≡ (sample *ℤ pos UNIT) +ℤ ((floor *ℤ pos UNIT) +ℤ pos over) = omega (arith, ints) in assoc)
    ∙ ap (λ z. (sample *ℤ pos UNIT) +ℤ z) (sym (units-split UNIT units some)) in
    sum-more sample floor (nat_lt UNIT (2 * over))
    ∙ by_over (sample +ℤ floor) over UNIT (nat_lt UNIT (2 * over)) (over_of-below UNIT units some) (none-between shift) refl
    ∙ ap (λ z. nearest z UNIT) exact
