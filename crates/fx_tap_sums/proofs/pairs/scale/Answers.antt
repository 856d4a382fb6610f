use Rattle.std.proofs.Common.{◌*◌, ◌^◌, ◌∙◌, ap, ℤ, pos, ◌*ℤ◌, List, replicate, slice_index_or, arith}
use Rattle.std.specs.Simd.Lanes.{zip2}
use Rattle.std.proofs.lemmas.Simd.{get_or-zip2, length-zip2, Each1-replicate, get_or-replicate}
use Rattle.fx_tap_sums.specs.Lanes.{WithinLane}
use Rattle.fx_tap_sums.proofs.PairLanes.{lanes-bound, wide_bits}
use Rattle.fx_tap_sums.proofs.ProductLanes.{lanes_back, mul_asked, mul_bits, products_within, wider}
use Rattle.fx_tap_sums.proofs.pairs.scale.Goals as goal

pub overflow_mul-result : goal.overflow_mul-result
overflow_mul-result c =
    let xs = c.args.sums in
    rw (wide_bits xs c.requires.fits) (mul_asked (2 ^ 31) 65536 xs (replicate 4 (pos 65536)) (omega arith) (omega arith) (omega arith) (lanes-bound xs c.requires.fits) (Each1-replicate (WithinLane 65536) 4 (pos 65536) (omega arith)))

pub returns : goal.returns
returns c =
    let xs = c.args.sums in
    let ys : List ℤ = replicate 4 (pos 65536) in
    let products = zip2 (λ a b. a *ℤ b) xs ys in
    let factors = Each1-replicate (WithinLane 65536) 4 (pos 65536) (omega arith) in
    let bits = mul_bits (2 ^ 31) 65536 xs ys (omega arith) (omega arith) (lanes-bound xs c.requires.fits) factors in
    let small = products_within (2 ^ 31) 65536 xs ys (lanes-bound xs c.requires.fits) factors in
    let four = c.requires.four in
    rw (wide_bits xs c.requires.fits, bits, lanes_back (2 ^ 31 * 65536) products (omega arith) small) (record {
      small = record { four = length-zip2 (λ a b. a *ℤ b) xs ys four ∙ four; small = wider (2 ^ 31 * 65536) (2 ^ 61) products (omega arith) small };
      value = λ k l. get_or-zip2 (λ a b. a *ℤ b) xs ys k (pos 0) (pos 0) (pos 0) (omega (arith, four, l)) l ∙ ap (λ y. slice_index_or xs k (pos 0) *ℤ y) (get_or-replicate 4 k (pos 65536) (pos 0) l);
    })
