-- A product divided by 64-bit steps is the product divided at once.
use Rattle.std.proofs.Common.{◌≡◌, ℕ, ◌+◌, ◌*◌, ◌/◌, ◌%◌, ◌<◌, ap, ◌∙◌, refl, arith, ℤ, pos, ◌*ℤ◌, not, int_lt, unsigned_abs}
use Rattle.std.specs.Bool.{beq}
use Rattle.std.proofs.Math.Nat.{mul-add-div, div-add-mod'}
use Rattle.fx_fixed.specs.Rounding.{nearest_natural, signed, clipping, rounding}
use Rattle.fx_fixed.proofs.Signs.{nearest-mul}

split_over : (u q r hi lo a b : ℕ) → 0 < u → a * u + b ≡ r * hi →
    nearest_natural ((q * u + r) * (hi * 65536 + lo)) u ≡ q * (hi * 65536 + lo) + a * 65536 + (2 * (b * 65536 + r * lo) + u) / (2 * u)
split_over u q r hi lo a b positive parts =
    let twice : 0 < 2 * u = omega arith in
    let e : 2 * ((q * u + r) * (hi * 65536 + lo)) + u ≡ (2 * u) * (q * (hi * 65536 + lo) + a * 65536) + (2 * (b * 65536 + r * lo) + u) = omega arith in
    ap (λ (n : ℕ). n / (2 * u)) e ∙ mul-add-div twice (q * (hi * 65536 + lo) + a * 65536) (2 * (b * 65536 + r * lo) + u)

-- gain * sample / u by two divisions of smaller numbers
pub nearest_natural-scaled : (u gain sample : ℕ) → 0 < u →
    nearest_natural (gain * sample) u ≡ gain / u * sample + gain % u * (sample / 65536) / u * 65536 + (2 * (gain % u * (sample / 65536) % u * 65536 + gain % u * (sample % 65536)) + u) / (2 * u)
nearest_natural-scaled u gain sample positive =
    let g = div-add-mod' gain u in
    let s = div-add-mod' sample 65536 in
    let whole : nearest_natural ((gain / u * u + gain % u) * (sample / 65536 * 65536 + sample % 65536)) u ≡ gain / u * (sample / 65536 * 65536 + sample % 65536) + gain % u * (sample / 65536) / u * 65536 + (2 * (gain % u * (sample / 65536) % u * 65536 + gain % u * (sample % 65536)) + u) / (2 * u) =
    split_over u (gain / u) (gain % u) (sample / 65536) (sample % 65536) _ _ positive (div-add-mod' (gain % u * (sample / 65536)) u) in
    rw (g, s) at whole

-- the same with the signs, as the code computes it
pub rounding-scaled : (gain sample : ℤ) (u a b m : ℕ) → 0 < u → a ≡ unsigned_abs gain → b ≡ unsigned_abs gain → m ≡ unsigned_abs sample →
    clipping (signed (not (beq (int_lt gain (pos 0)) (int_lt sample (pos 0)))) (a / u * m + b % u * (m / 65536) / u * 65536 + (2 * (b % u * (m / 65536) % u * 65536 + b % u * (m % 65536)) + u) / (2 * u))) ≡ rounding (gain *ℤ sample) u
rounding-scaled gain sample u a b m positive a_is b_is m_is =
    rw (a_is, b_is, m_is, ← nearest_natural-scaled u (unsigned_abs gain) (unsigned_abs sample) positive, nearest-mul gain sample u positive) refl
