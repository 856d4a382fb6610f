use Rattle.std.proofs.Common.{ℕ, ℤ, List, pos, ◌^◌, replicate, refl, arith}
use Rattle.std.proofs.lemmas.Simd.{Each1-replicate}
use Rattle.fx_tap_sums.specs.Lanes.{LanesWithin, WithinLane}
use Rattle.fx_tap_sums.specs.Pairs.{FourFit, IsSplit}
use Rattle.fx_tap_sums.proofs.PairLanes.{joined-lane, lanes-bound, wide-step-is, wide_asked, wide_bits}
use Rattle.fx_tap_sums.proofs.PartSums.{split-maximum}
use Rattle.fx_tap_sums.proofs.ProductLanes.{kernel_small, lanes_are, mul_asked, sums_asked}
use Rattle.fx_tap_sums.proofs.pairs.join_parts.Goals as goal

lanes-small : (xs : List ℤ) → FourFit xs → LanesWithin (2 ^ 31) xs
lanes-small xs fit = record { four = fit.four; small = lanes-bound xs fit.fits }

steps-small : (split : ℕ) → IsSplit split → LanesWithin 16384 (replicate 4 (pos (2 ^ split)))
steps-small split is =
    record { four = refl; small = Each1-replicate (WithinLane 16384) 4 (pos (2 ^ split)) (omega (arith, split-maximum split is)) }

pub overflow_mul-high : goal.overflow_mul-high
overflow_mul-high c =
    let high = c.args.high in
    rw (wide-step-is c.args.split c.requires.split, wide_bits high c.requires.high.fits)
    (mul_asked (2 ^ 31) 16384 high (replicate 4 (pos (2 ^ c.args.split))) (omega arith) (omega arith) (omega arith) (lanes-bound high c.requires.high.fits) (steps-small c.args.split c.requires.split).small)

pub overflow_cast-result : goal.overflow_cast-result
overflow_cast-result c = wide_asked c.args.low c.requires.low.fits

pub overflow_add-result : goal.overflow_add-result
overflow_add-result c =
    let high = c.args.high in
    let low = c.args.low in
    rw (wide-step-is c.args.split c.requires.split, wide_bits high c.requires.high.fits, wide_bits low c.requires.low.fits)
    (sums_asked (2 ^ 31) (2 ^ 31) 16384 low high (replicate 4 (pos (2 ^ c.args.split))) (omega arith) (omega arith) (omega arith) (omega arith) (omega arith) (lanes-small low c.requires.low) (lanes-small high c.requires.high) (steps-small c.args.split c.requires.split))

pub returns : goal.returns
returns c =
    let high = c.args.high in
    let low = c.args.low in
    let steps = replicate 4 (pos (2 ^ c.args.split)) in
    let low_small = lanes-small low c.requires.low in
    let high_small = lanes-small high c.requires.high in
    let steps_small = steps-small c.args.split c.requires.split in
    rw (wide-step-is c.args.split c.requires.split, wide_bits high c.requires.high.fits, wide_bits low c.requires.low.fits, lanes_are (2 ^ 31) (2 ^ 31) 16384 low high steps (omega arith) (omega arith) (omega arith) (omega arith) (omega arith) low_small high_small steps_small)
    record {
      small = kernel_small (2 ^ 31) (2 ^ 46) (2 ^ 31) 16384 low high steps (omega arith) low_small high_small steps_small;
      value = λ k l. joined-lane (2 ^ c.args.split) high low k c.requires.high.four c.requires.low.four l;
    }
