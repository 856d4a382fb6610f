use Rattle.std.proofs.Common.{◌≡◌, arith, pos, get_or, ◌+ℤ◌, ◌≤◌, ◌*◌, ◌^◌, unsigned_abs}
use Rattle.std.proofs.lemmas.Int.{ints, to_z-of_z}
use Rattle.fx_tap_sums.specs.Lanes.{lane_sum}
use Rattle.fx_tap_sums.proofs.ProductBounds.{within_abs}
use Rattle.fx_tap_sums.proofs.products.sum_lanes.Goals as goal
use Rattle.fx_tap_sums.proofs.ProductLanes.{lane_fits, lane_sum-four, lane_sum-within, lanes_back}

pub returns-clause-value : goal.returns-clause-value
returns-clause-value c =
    let back = lanes_back (c.args.at * 2 ^ 54) c.args.lanes (omega arith) c.requires.lanes.small in
    let f0 = lane_fits (c.args.at * 2 ^ 54) 0 c.args.lanes (omega arith) (omega arith) c.requires.lanes in
    let f1 = lane_fits (c.args.at * 2 ^ 54) 1 c.args.lanes (omega arith) (omega arith) c.requires.lanes in
    let f2 = lane_fits (c.args.at * 2 ^ 54) 2 c.args.lanes (omega arith) (omega arith) c.requires.lanes in
    let f3 = lane_fits (c.args.at * 2 ^ 54) 3 c.args.lanes (omega arith) (omega arith) c.requires.lanes in
    let first : c.sum_two.result ≡ (get_or c.args.lanes 0 (pos 0) +ℤ get_or c.args.lanes 1 (pos 0)) = grind (arith, to_z-of_z, back) in
    let second : c.sum_two-2.result ≡ (get_or c.args.lanes 2 (pos 0) +ℤ get_or c.args.lanes 3 (pos 0)) = grind (arith, to_z-of_z, back) in
    omega (arith, ints, lane_sum-four c.args.lanes c.requires.lanes.four)

pub returns-clause-low : goal.returns-clause-low
returns-clause-low c =
    let maximum : unsigned_abs (lane_sum c.args.lanes) ≤ c.args.at * 2 ^ 56 = omega (arith, rw c.requires.lanes.four at (lane_sum-within (c.args.at * 2 ^ 54) c.args.lanes c.requires.lanes.small)) in
    rw (returns-clause-value c) (within_abs (lane_sum c.args.lanes) (c.args.at * 2 ^ 56) maximum).0

pub returns-clause-high : goal.returns-clause-high
returns-clause-high c =
    let maximum : unsigned_abs (lane_sum c.args.lanes) ≤ c.args.at * 2 ^ 56 = omega (arith, rw c.requires.lanes.four at (lane_sum-within (c.args.at * 2 ^ 54) c.args.lanes c.requires.lanes.small)) in
    rw (returns-clause-value c) (within_abs (lane_sum c.args.lanes) (c.args.at * 2 ^ 56) maximum).1
