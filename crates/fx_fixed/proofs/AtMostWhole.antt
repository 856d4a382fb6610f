-- A sample times a weight of at most 1 is not clipped.
use Rattle.std.proofs.Common.{◌≡◌, ℕ, ℤ, zero, suc, pos, negsuc, ◌+◌, ◌*◌, ◌*ℤ◌, ◌/◌, ◌<◌, ◌≤◌, ◌^◌, false, true, refl, ap, ◌∙◌, arith, FitsSigned, not}
use Rattle.std.specs.Int.{w32}
use Rattle.std.proofs.Math.Nat.{mul-le-mul_left}
use Rattle.std.proofs.lemmas.Int.{ints}
use Rattle.std.proofs.lemmas.Nat.{div_below}
use Rattle.std.proofs.lemmas.Bool.{lt-ltb}
use Rattle.fx_fixed.specs.Rounding.{clipping, nearest_natural, rounding, signed}
use Rattle.fx_fixed.proofs.Signs.{nearest-neg}

pub nearest-le : (n w d : ℕ) → 0 < d → w ≤ d → nearest_natural (n * w) d ≤ n
nearest-le n w d some h =
    let p : n * w ≤ n * d = mul-le-mul_left n h in
    let b : (2 * (n * w) + d) / (2 * d) < suc n = div_below (2 * (n * w) + d) (2 * d) (suc n) (omega arith) (omega arith) in
    omega arith

pub fits-pos : (n : ℕ) → FitsSigned w32 (pos n) → n < 2 ^ 31
fits-pos n h = omega (arith, ints)

pub fits-neg : (n : ℕ) → FitsSigned w32 (negsuc n) → n < 2 ^ 31
fits-neg n h = omega (arith, ints)

pub unclipped-pos : (k : ℕ) → k < 2 ^ 31 → (clipping (pos k)).1 ≡ false
unclipped-pos k h = ap not (lt-ltb k (2 ^ 31) h)

pub unclipped-neg : (k n : ℕ) → k ≤ suc n → n < 2 ^ 31 → (clipping (signed true k)).1 ≡ false
unclipped-neg zero n h f = refl
unclipped-neg (suc k) n h f = ap not (lt-ltb k (2 ^ 31) (omega arith))

pub not-clipped : (x : ℤ) (w d : ℕ) → 0 < d → w ≤ d → FitsSigned w32 x → (rounding (x *ℤ pos w) d).1 ≡ false
not-clipped (pos n) w d some h f =
    let l = nearest-le n w d some h in
    let g = fits-pos n f in
    unclipped-pos (nearest_natural (n * w) d) (omega arith)
not-clipped (negsuc n) w d some h f =
    ap (λ z. (clipping z).1) (nearest-neg (suc n * w) d some)
    ∙ unclipped-neg (nearest_natural (suc n * w) d) n (nearest-le (suc n) w d some h) (fits-neg n f)
