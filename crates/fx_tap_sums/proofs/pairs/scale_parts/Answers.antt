use Rattle.std.proofs.Common.{◌≡◌, ◌<◌, ◌*◌, ◌^◌, ◌∙◌, ap, ℕ, ℤ, pos, ◌*ℤ◌, List, replicate, slice_index_or, arith}
use Rattle.std.specs.Simd.Lanes.{zip2}
use Rattle.std.proofs.lemmas.Simd.{get_or-replicate, get_or-zip2, length-zip2, Each1-from_get_or, Each1-replicate}
use Rattle.fx_tap_sums.specs.Lanes.{WithinLane}
use Rattle.fx_tap_sums.specs.Pairs.{joined_at}
use Rattle.fx_tap_sums.proofs.PairLanes.{four_back, joined-within}
use Rattle.fx_tap_sums.proofs.ProductLanes.{lanes_back, mul_asked, mul_bits, products_within}
use Rattle.fx_tap_sums.proofs.pairs.scale_parts.Goals as goal

pub join_parts-requires-clause-high : goal.join_parts-requires-clause-high
join_parts-requires-clause-high c = rw (four_back c.args.high c.requires.high) c.requires.high

pub join_parts-requires-clause-low : goal.join_parts-requires-clause-low
join_parts-requires-clause-low c = rw (four_back c.args.low c.requires.low) c.requires.low

pub overflow_mul-result : goal.overflow_mul-result
overflow_mul-result c =
    mul_asked (2 ^ 46) 65536 c.join_parts.result (replicate 4 (pos 65536)) (omega arith) (omega arith) (omega arith) c.join_parts.ensures.small.small (Each1-replicate (WithinLane 65536) 4 (pos 65536) (omega arith))

pub returns : goal.returns
returns c =
    let xs = c.join_parts.result in
    let ys : List ℤ = replicate 4 (pos 65536) in
    let products = zip2 (λ a b. a *ℤ b) xs ys in
    let factors = Each1-replicate (WithinLane 65536) 4 (pos 65536) (omega arith) in
    let bits = mul_bits (2 ^ 46) 65536 xs ys (omega arith) (omega arith) c.join_parts.ensures.small.small factors in
    let small = products_within (2 ^ 46) 65536 xs ys c.join_parts.ensures.small.small factors in
    let four = c.join_parts.ensures.small.four in
    let long = length-zip2 (λ a b. a *ℤ b) xs ys four in
    let value : (k : ℕ) → k < 4 → slice_index_or products k (pos 0) ≡ joined_at (2 ^ c.args.split) c.args.high c.args.low k *ℤ pos 65536 = λ k l.
    get_or-zip2 (λ a b. a *ℤ b) xs ys k (pos 0) (pos 0) (pos 0) (omega (arith, four, l)) l ∙ ap (λ y. slice_index_or xs k (pos 0) *ℤ y) (get_or-replicate 4 k (pos 65536) (pos 0) l)
    ∙ ap (λ x. x *ℤ pos 65536) (rw (four_back c.args.high c.requires.high, four_back c.args.low c.requires.low) at (c.join_parts.ensures.value k l)) in
    let within : (k : ℕ) → k < 4 → WithinLane (2 ^ 61) (slice_index_or products k (pos 0)) = λ k l. rw (value k l) (joined-within (2 ^ c.args.split) (slice_index_or c.args.high k (pos 0)) (slice_index_or c.args.low k (pos 0)) (c.requires.small k l)) in
    rw (bits, lanes_back (2 ^ 46 * 65536) products (omega arith) small) (record {
      small = record { four = long ∙ four; small = Each1-from_get_or (WithinLane (2 ^ 61)) products (pos 0) (λ k l. within k (omega (arith, l, long, four))) };
      value = value;
    })
