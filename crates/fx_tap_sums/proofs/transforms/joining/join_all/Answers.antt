use Rattle.std.proofs.Common.{arith, refl, ◌≡◌, ◌∙◌, ◌+◌, ◌≤◌, ◌^◌, ℤ, pos, ◌*ℤ◌, unsigned_abs, w64}
use Rattle.std.proofs.lemmas.Int.{ints, fits_signed_from_abs}
use Rattle.fx_tap_sums.specs.Joined.{HasBothAt}
use Rattle.fx_tap_sums.proofs.Convolving.{placed-more}
use Rattle.fx_tap_sums.proofs.Joining.{joined_small}
use Rattle.fx_tap_sums.proofs.ProductLanes.{lanes_back}
use Rattle.fx_tap_sums.proofs.SmallSums.{held-in-64}
use Rattle.fx_tap_sums.proofs.Writes.{each_more}
use Rattle.fx_tap_sums.proofs.transforms.joining.join_all.Goals as goal

pub put_lanes-requires-clause-lanes : goal.put_lanes-requires-clause-lanes
put_lanes-requires-clause-lanes c =
    let small = joined_small c.groups.at c.args.first.now c.args.second.now c.load.result c.load-in-groups.result c.join_two.result c.join_two.ensures.four c.load.ensures.value c.load-in-groups.ensures.value (λ k l. c.join_two.ensures.sums k (omega (arith, c.join_two.ensures.four, l))) (λ k l. c.requires.are (c.groups.at + k) (omega arith)) in
    rw (lanes_back (2 ^ 61) c.join_two.result (omega arith) small.small) small

pub groups-preserved : goal.groups-preserved
groups-preserved c =
    let first = c.args.first.now in
    let second = c.args.second.now in
    let small = joined_small c.groups.at first second c.load.result c.load-in-groups.result c.join_two.result c.join_two.ensures.four c.load.ensures.value c.load-in-groups.ensures.value (λ k l. c.join_two.ensures.sums k (omega (arith, c.join_two.ensures.four, l))) (λ k l. c.requires.are (c.groups.at + k) (omega arith)) in
    let back = lanes_back (2 ^ 61) c.join_two.result (omega arith) small.small in
    let put = rw back at c.put_lanes.ensures.put in
    record {
      place = omega arith;
      done = placed-more (λ i v. (x : ℤ) → HasBothAt first second i x → v ≡ pos 256 *ℤ x) 4 c.groups.at _
          (λ i l x both. c.put_lanes.ensures.before i l ∙ c.groups.invariant.done i l x both)
          (λ k l x both. put k l ∙ c.join_two.ensures.sums k (omega (arith, c.join_two.ensures.four, l)) x (rw (c.load.ensures.value k l, c.load-in-groups.ensures.value k l) both));
    }

pub overflow_mul-sums : goal.overflow_mul-sums
overflow_mul-sums c =
    let given = c.requires.are c.rest.place (omega arith) in
    let x : ℤ = given.0 in
    let bound : unsigned_abs x ≤ 2 ^ 53 = given.1.small in
    let is : c.joined_two.result ≡ x = c.joined_two.ensures x bound given.1.modulo_first given.1.modulo_second in
    rw (is, held-in-64 x (omega (arith, bound))) (fits_signed_from_abs w64 (pos 256 *ℤ x) (omega (arith, ints, bound)))

pub rest-preserved : goal.rest-preserved
rest-preserved c =
    let first = c.args.first.now in
    let second = c.args.second.now in
    each_more (pos 0) (λ i v. (x : ℤ) → HasBothAt first second i x → v ≡ pos 256 *ℤ x) c.rest.sums c.rest.place _ (omega arith)
    (λ x both.
    let bound : unsigned_abs x ≤ 2 ^ 53 = both.small in
    let is : c.joined_two.result ≡ x = c.joined_two.ensures x bound both.modulo_first both.modulo_second in
    rw (is, held-in-64 x (omega (arith, bound)), held-in-64 (pos 256 *ℤ x) (omega (arith, ints, bound))) refl)
    c.rest.invariant
