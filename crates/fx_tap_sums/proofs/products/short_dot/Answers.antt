use Rattle.std.proofs.Common.{arith, sym, ◌∙◌, refl, ◌≡◌, ◌≤◌, ◌+◌, ◌*◌, ◌^◌, length, ◌+ℤ◌, to_z, w64, map}
use Rattle.std.specs.Simd.Lanes.{chunk}
use Rattle.fx_tap_sums.specs.Lanes.{joined, lane_sum}
use Rattle.fx_tap_sums.specs.Products.{sum_of_products}
use Rattle.fx_tap_sums.proofs.products.short_dot.Goals as goal
use Rattle.fx_tap_sums.proofs.ProductLanes.{block_added, lanes_back, wide-within, sum_of_products-block, sum_of_products-joined}

pub add_products-high-requires-clause-x : goal.add_products-high-requires-clause-x
add_products-high-requires-clause-x c = wide-within (2 ^ 31) c.load-x.result (omega arith) c.load-x.ensures.small

pub add_products-low-requires-clause-x : goal.add_products-low-requires-clause-x
add_products-low-requires-clause-x c = wide-within (2 ^ 31) c.load-x.result (omega arith) c.load-x.ensures.small

pub add_products-high-requires-clause-y : goal.add_products-high-requires-clause-y
add_products-high-requires-clause-y c = wide-within (2 ^ 25) c.load_parts.result.0 (omega arith) c.load_parts.ensures.high

pub add_products-low-requires-clause-y : goal.add_products-low-requires-clause-y
add_products-low-requires-clause-y c = wide-within (2 ^ 25) c.load_parts.result.1 (omega arith) c.load_parts.ensures.low

pub loop-at-preserved : goal.loop-at-preserved
loop-at-preserved c =
    let xs = c.args.samples.now in
    let cs = c.args.coefficients.now in
    let x = c.load-x.result in
    let h = c.load_parts.result.0 in
    let l = c.load_parts.result.1 in
    let maximum = (c.loop-at.at + 4) * 2 ^ 54 in
    let x_back = lanes_back (2 ^ 31) x (omega arith) c.load-x.ensures.small.small in
    let h_back = lanes_back (2 ^ 25) h (omega arith) c.load_parts.ensures.high.small in
    let l_back = lanes_back (2 ^ 25) l (omega arith) c.load_parts.ensures.low.small in
    let high_back = lanes_back maximum c.add_products-high.result (omega arith) c.add_products-high.ensures.small.small in
    let low_back = lanes_back maximum c.add_products-low.result (omega arith) c.add_products-low.ensures.small.small in
    let high_is : lane_sum c.add_products-high.result ≡ (lane_sum (map (to_z w64) c.loop-at.high) +ℤ sum_of_products x h) = c.add_products-high.ensures.value ∙ rw (x_back, h_back) refl in
    let low_is : lane_sum c.add_products-low.result ≡ (lane_sum (map (to_z w64) c.loop-at.low) +ℤ sum_of_products x l) = c.add_products-low.ensures.value ∙ rw (x_back, l_back) refl in
    let x_four = c.load-x.ensures.small.four in
    let h_four = c.load_parts.ensures.high.four in
    let l_four = c.load_parts.ensures.low.four in
    let split = sum_of_products-joined x h l (h_four ∙ sym x_four) (l_four ∙ sym x_four) in
    let block : sum_of_products (chunk c.loop-at.at 4 xs) (chunk c.loop-at.at 4 cs) ≡ joined (sum_of_products x h) (sum_of_products x l) =
    rw (← c.load-x.ensures.value, c.load_parts.ensures.value) split in
    let in_cs : c.loop-at.at + 4 ≤ length cs = omega arith in
    let parts = sum_of_products-block xs cs c.loop-at.at c.loop-at-test.true in_cs in
    let before = rw parts at c.loop-at.invariant.value in
    record {
      value = rw (high_back, low_back) (block_added _ _ _ _ _ _ _ (sum_of_products x h) (sum_of_products x l) before high_is low_is block);
      high = rw high_back c.add_products-high.ensures.small;
      low = rw low_back c.add_products-low.ensures.small;
      place = c.loop-at-test.true;
    }
