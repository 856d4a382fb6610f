use Rattle.std.proofs.Common.{rules, ◌≡◌, ◌<◌, ◌≤◌, ◌+◌, ◌^◌, ◌∙◌, ℕ, ℤ, pos, ◌+ℤ◌, ◌*ℤ◌, List, arith, length, slice_index_or, unsigned_abs, refl, to_z, of_z, w32, w64, FitsSigned}
use Rattle.std.proofs.lemmas.Int.{ints, fits_signed_from_abs}
use Rattle.fx_tap_sums.proofs.Convolving.{Adding, Adding-bound, Adding-last, Adding-next}
use Rattle.fx_tap_sums.proofs.SmallSums.{held-64, plain-product-64}
use Rattle.fx_tap_sums.proofs.convolve.small_dot.Goals as goal

-- a sample times a weight, both widened, is added
next : (xs ws : List ℤ) (tap : ℕ) (s x w f y : ℤ) → x ≡ slice_index_or xs tap (pos 0) → w ≡ slice_index_or ws tap (pos 0) → tap < length ws → tap < length xs → FitsSigned w32 x → FitsSigned w32 w → f ≡ x → y ≡ w → Adding xs ws tap s →
    let sum : ℤ = s +ℤ to_z w64 (of_z w64 (to_z w64 (of_z w64 f) *ℤ to_z w64 (of_z w64 y))) in FitsSigned w64 sum × Adding xs ws (tap + 1) (to_z w64 (of_z w64 sum))
next xs ws tap s x w f y x_is w_is in_ws in_xs x_fits w_fits f_is y_is adding =
    let sample : unsigned_abs x ≤ 2 ^ 31 = omega (arith, ints) in
    let weight : unsigned_abs w ≤ 2 ^ 31 = omega (arith, ints) in
    let more = Adding-next xs ws tap s (s +ℤ (x *ℤ w)) in_ws in_xs (rw (← x_is) sample) (rw (x_is, w_is) refl) adding in
    let bound = Adding-bound xs ws _ (s +ℤ (x *ℤ w)) more in
    rw (plain-product-64 x w f y f_is y_is sample weight) (fits_signed_from_abs w64 (s +ℤ (x *ℤ w)) (omega (arith, bound)), rw (held-64 (s +ℤ (x *ℤ w)) (omega (arith, bound))) more)

pub overflow_add-sum : goal.overflow_add-sum
overflow_add-sum c =
    (next c.args.samples.now c.args.weights.now c.taps.tap (to_z w64 c.taps.sum-bits) (slice_index_or c.args.samples.now c.taps.tap (pos 0)) (slice_index_or c.args.weights.now c.taps.tap (pos 0)) c.from.result c.from-in-taps.result refl refl c.taps-test.true (omega arith) (search rules) (search rules) (c.from.ensures ∙ search rules) (c.from-in-taps.ensures ∙ search rules) c.taps.invariant).0

pub taps-preserved : goal.taps-preserved
taps-preserved c =
    (next c.args.samples.now c.args.weights.now c.taps.tap (to_z w64 c.taps.sum-bits) (slice_index_or c.args.samples.now c.taps.tap (pos 0)) (slice_index_or c.args.weights.now c.taps.tap (pos 0)) c.from.result c.from-in-taps.result refl refl c.taps-test.true (omega arith) (search rules) (search rules) (c.from.ensures ∙ search rules) (c.from-in-taps.ensures ∙ search rules) c.taps.invariant).1

pub returns-clause-sum : goal.returns-clause-sum
returns-clause-sum c = Adding-last c.args.samples.now c.args.weights.now c.taps.tap (to_z w64 c.taps.sum-bits) c.taps-test.false c.taps.invariant
