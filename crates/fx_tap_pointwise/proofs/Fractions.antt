-- A gain in lowest terms rounds as the gain.
use Rattle.std.proofs.Common.{ℕ, ℤ, pos, ◌≡◌, ◌*◌, ◌*ℤ◌, ◌^◌, ◌≤◌, ◌∙◌, [], ◌∷◌, ap, arith, sym, zero, suc, to_z, of_z, unsigned_abs, List, get_or, IfSome, None, Option, Some, sum_by}
use Rattle.std.specs.Int.{w32}
use Rattle.std.proofs.lemmas.List.Sums.{sum_by-cons}
use Rattle.std.proofs.lemmas.Int.{fits_signed_from_abs, to_z-of_z}
use Rattle.fx_fixed.specs.Rounding.{rounding}
use Rattle.fx_fixed.specs.Reduced.{IsReduced}
use Rattle.fx_fixed.specs.declared.gains.TheConstants.{UNIT}
use Rattle.fx_fixed.proofs.Reductions.{rounding-reduced}
use Rattle.fx_tap_pointwise.specs.Fractions.{Ratio, Rounds, fraction_sample}
use Rattle.fx_tap_sums.proofs.Numbers.{mul_assoc, below-positive, one-times}

-- the weight is that of the reduced gain
pub reduced-rounds : (gain g : ℤ) (whole : ℕ) (weights : List ℤ) (f : Ratio) → g ≡ gain → whole ≡ UNIT → f.weight ≡ get_or weights 0 (pos 0) → IsReduced (pos 1) whole (g ∷ []) weights f.denominator → Rounds gain f
reduced-rounds gain g whole weights f same unit is reduced sample =
    let q = below-positive reduced.by f.denominator whole reduced.below (omega (arith, unit)) in
    let first : pos reduced.by *ℤ f.weight ≡ gain = ap (λ z. pos reduced.by *ℤ z) is ∙ reduced.above 0 (omega arith) ∙ one-times g ∙ same in
    let above : pos reduced.by *ℤ (f.weight *ℤ sample) ≡ gain *ℤ sample = mul_assoc (pos reduced.by) f.weight sample ∙ ap (λ z. z *ℤ sample) first in
    let fraction = rounding-reduced reduced.by f.denominator (f.weight *ℤ sample) reduced.positive q in
    sym fraction ∙ ap (λ z. rounding z (reduced.by * f.denominator)) above ∙ ap (λ n. rounding (gain *ℤ sample) n) (reduced.below ∙ unit)

-- and so does what is made of that weight, where it is made
pub some-rounds : (gain : ℤ) (made : Option Ratio) (f : Ratio) → IfSome made (λ g. g ≡ f) → Rounds gain f → IfSome made (Rounds gain)
some-rounds gain (Some g) f is rounds = λ sample. ap (λ r. fraction_sample r sample) is ∙ rounds sample
some-rounds gain None f is rounds = tt

-- a weight is at most the sum of their magnitudes
pub weight-bound : (weights : List ℤ) (i : ℕ) → unsigned_abs (get_or weights i (pos 0)) ≤ sum_by unsigned_abs weights
weight-bound [] i = omega arith
weight-bound (w ∷ ws) zero = rw (sum_by-cons unsigned_abs w ws) (omega arith)
weight-bound (w ∷ ws) (suc i) =
    let rest = weight-bound ws i in
    rw (sum_by-cons unsigned_abs w ws) (omega (arith, rest))

-- it fits 32 bits
pub held-32 : (weights : List ℤ) (i : ℕ) → sum_by unsigned_abs weights ≤ 2 ^ 30 → to_z w32 (of_z w32 (get_or weights i (pos 0))) ≡ get_or weights i (pos 0)
held-32 weights i small =
    let bound = weight-bound weights i in
    to_z-of_z w32 (get_or weights i (pos 0)) (fits_signed_from_abs w32 (get_or weights i (pos 0)) (omega (arith, bound, small)))
