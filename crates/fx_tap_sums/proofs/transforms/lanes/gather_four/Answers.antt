use Rattle.std.proofs.Common.{arith, ◌≡◌, ◌*◌, refl}
use Rattle.fx_tap_sums.proofs.Vectors.{lane_reduced, lane_same}
use Rattle.fx_tap_sums.proofs.transforms.lanes.gather_four.Goals as goal

pub returns-clause-low : goal.returns-clause-low
returns-clause-low g c =
    let twice : 8 * g.row.P ≡ 2 * (4 * g.row.P) = omega arith in
    lane_reduced (4 * g.row.P) c.gather_open.result.0 c.less_of_difference.result (rw twice at c.gather_open.ensures.low) c.less_of_difference.ensures.four c.less_of_difference.ensures.below c.less_of_difference.ensures.above

pub returns-clause-plus : goal.returns-clause-plus
returns-clause-plus g c = λ k l.
    rw (c.gather_open.ensures.plus k l) at (lane_same g.row.P 4 (4 * g.row.P) c.gather_open.result.0 c.less_of_difference.result refl c.less_of_difference.ensures.below c.less_of_difference.ensures.above k l)
