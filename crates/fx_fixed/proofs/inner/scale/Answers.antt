use Rattle.std.proofs.Common.{◌∙◌, ◌≡◌, arith, ap, ◌*ℤ◌, unsigned_abs, FitsSigned}
use Rattle.std.proofs.lemmas.Grind.{common_steps}
use Rattle.std.specs.Int.{w64}
use Rattle.std.proofs.lemmas.Int.{fits_signed_from_abs, to_z-of_z}
use Rattle.fx_fixed.specs.Rounding.{rounding}
use Rattle.fx_fixed.specs.declared.gains.TheConstants.{UNIT}
use Rattle.fx_fixed.proofs.Scaling.{rounding-scaled}
use Rattle.fx_fixed.proofs.inner.scale.Goals as goal

pub returns : goal.returns
returns c =
    let factor = c.trillionths-factor.result in
    let fits : FitsSigned w64 factor = fits_signed_from_abs w64 factor (omega (arith, c.trillionths-factor.ensures.bound)) in
    let a : c.unsigned_abs-whole.result ≡ unsigned_abs factor = grind (arith, to_z-of_z) in
    let b : c.unsigned_abs-part.result ≡ unsigned_abs factor = grind (arith, to_z-of_z) in
    let m : c.from-magnitude.result ≡ unsigned_abs c.args.sample = grind (arith, to_z-of_z) in
    let clipped = simp (to_z-of_z, fits, c.ranges.sample) at c.clip.ensures in
    (rw c.from.ensures at clipped)
    ∙ rounding-scaled factor c.args.sample UNIT _ _ _ (omega arith) a b m
    ∙ ap (λ gain. rounding (gain *ℤ c.args.sample) UNIT) c.trillionths-factor.ensures.value

pub overflow_add-nearest : goal.overflow_add-nearest
overflow_add-nearest c = grind (arith, common_steps)

pub overflow_add-nearest-4 : goal.overflow_add-nearest-4
overflow_add-nearest-4 c = grind (arith, common_steps)
