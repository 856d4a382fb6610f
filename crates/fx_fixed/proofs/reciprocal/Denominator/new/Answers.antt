use Rattle.std.proofs.Common.{arith}
use Rattle.std.proofs.Math.Nat.{pow-le-pow_right}
use Rattle.std.proofs.lemmas.Int.{fits_signed_from_abs}
use Rattle.std.proofs.Common.{w64, ◌*◌, ◌≡◌, ◌≤◌, ◌^◌}
use Rattle.fx_fixed.proofs.Reciprocals.{factor-fits, power-is, prepared}
use Rattle.fx_fixed.proofs.reciprocal.Denominator.new.Goals as goal

pub overflow_cast-factor : goal.overflow_cast-factor
overflow_cast-factor c =
    let m = c.multiplier_of-multiplier in
    let power : 2 ^ m.result.1 ≤ 2 ^ 61 = pow-le-pow_right (omega arith) m.ensures.shift in
    let fits = factor-fits (m.result.0 * c.args.value) (2 ^ m.result.1) power m.ensures.above in
    let divisor : c.from.result ≡ m.result.0 * c.args.value = c.from.ensures in
    rw (power-is m.result.1 (omega (arith, m.ensures.shift)), divisor) (fits_signed_from_abs w64 _ (omega (arith, fits)))

pub invariant_of-result : goal.invariant_of-result
invariant_of-result c =
    let m = c.multiplier_of-multiplier in
    let divisor : c.from.result ≡ m.result.0 * c.args.value = c.from.ensures in
    rw (power-is m.result.1 (omega (arith, m.ensures.shift)), divisor)
    (prepared c.args.value m.result.0 m.result.1 c.requires.minimum m.ensures.small m.ensures.shift m.ensures.above m.ensures.below)
