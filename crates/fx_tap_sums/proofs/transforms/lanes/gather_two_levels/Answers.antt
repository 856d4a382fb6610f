use Rattle.std.proofs.Common.{arith, ap, ◌*◌, ◌≡◌, refl, pos, ◌+ℤ◌, slice_index_or}
use Rattle.fx_tap_sums.specs.Residues.{AreFour, Same}
use Rattle.fx_tap_sums.specs.Quarters.{difference_at}
use Rattle.fx_tap_sums.proofs.Quarters.{difference_from, sum_from}
use Rattle.fx_tap_sums.proofs.Residues.{same_is, same_on}
use Rattle.fx_tap_sums.proofs.Vectors.{lane_reduced, lane_same}
use Rattle.fx_tap_sums.proofs.transforms.lanes.gather_two_levels.Goals as goal

pub returns-clause-first_less : goal.returns-clause-first_less
returns-clause-first_less g c =
    let p = g.row.P in
    let whole : 16 * p ≡ 2 * (8 * p) = omega arith in
    let twice : 8 * p ≡ 2 * (4 * p) = omega arith in
    let sum : AreFour (2 * (8 * p)) c.gather_open-3.result.0 = rw whole at c.gather_open-3.ensures.low in
    let once = lane_reduced (8 * p) c.gather_open-3.result.0 c.less_of_difference.result sum c.less_of_difference.ensures.four c.less_of_difference.ensures.below c.less_of_difference.ensures.above in
    lane_reduced (4 * p) c.less_of_difference.result c.less_of_difference-first.result (rw twice at once) c.less_of_difference-first.ensures.four c.less_of_difference-first.ensures.below c.less_of_difference-first.ensures.above

pub returns-clause-first : goal.returns-clause-first
returns-clause-first g c = λ k l.
    let p = g.row.P in
    let sum = pos (slice_index_or c.gather_open-3.result.0 k 0) in
    let once = lane_same p 8 (8 * p) c.gather_open-3.result.0 c.less_of_difference.result refl c.less_of_difference.ensures.below c.less_of_difference.ensures.above k l in
    let twice = lane_same p 4 (4 * p) c.less_of_difference.result c.less_of_difference-first.result refl c.less_of_difference-first.ensures.below c.less_of_difference-first.ensures.above k l in
    let same : Same (pos p) (pos (slice_index_or c.less_of_difference-first.result k 0)) sum = same_on (pos p) _ (pos (slice_index_or c.less_of_difference.result k 0)) sum twice once in
    rw (c.gather_open-3.ensures.plus k l, c.gather_open.ensures.plus k l, c.gather_open-2.ensures.plus k l) at same

pub returns-clause-second : goal.returns-clause-second
returns-clause-second g c = λ k l.
    sum_from (pos g.row.P) (pos (slice_index_or c.gather_open-4.result.0 k 0)) (pos (slice_index_or c.gather_open.result.1 k 0)) (pos (slice_index_or c.gather_open-2.result.1 k 0)) (difference_at (pos c.args.low_inverse) c.args.first c.args.second k) (difference_at (pos c.args.high_inverse) c.args.third c.args.fourth k)
    (same_is (pos g.row.P) (pos (slice_index_or c.gather_open-4.result.0 k 0)) (pos (slice_index_or c.gather_open.result.1 k 0) +ℤ pos (slice_index_or c.gather_open-2.result.1 k 0)) (ap pos (c.gather_open-4.ensures.plus k l))) (c.gather_open.ensures.minus k l) (c.gather_open-2.ensures.minus k l)

pub returns-clause-third : goal.returns-clause-third
returns-clause-third g c = λ k l. rw (c.gather_open.ensures.plus k l, c.gather_open-2.ensures.plus k l) at (c.gather_open-3.ensures.minus k l)

pub returns-clause-fourth : goal.returns-clause-fourth
returns-clause-fourth g c = λ k l.
    difference_from (pos g.row.P) (pos (slice_index_or c.gather_open-4.result.1 k 0)) (pos c.args.inverse) (pos (slice_index_or c.gather_open.result.1 k 0)) (pos (slice_index_or c.gather_open-2.result.1 k 0)) (difference_at (pos c.args.low_inverse) c.args.first c.args.second k) (difference_at (pos c.args.high_inverse) c.args.third c.args.fourth k) (c.gather_open-4.ensures.minus k l) (c.gather_open.ensures.minus k l) (c.gather_open-2.ensures.minus k l)
