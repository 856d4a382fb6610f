use Rattle.std.proofs.Common.{arith, ◌*◌, refl, ℕ, ℤ, List, pos, neg_ℤ, ◌+ℤ◌, ◌*ℤ◌, slice_index_or, ◌-ℤ◌}
use Rattle.fx_tap_sums.specs.Residues.{AreFour}
use Rattle.fx_tap_sums.proofs.Residues.{minus_times, same_added, same_on}
use Rattle.fx_tap_sums.proofs.Vectors.{lane_reduced, lane_same}
use Rattle.fx_tap_sums.proofs.transforms.lanes.join_four_of_thirds.Goals as goal

abbrev lane : List ℕ → ℕ → ℤ
lane xs k = pos (slice_index_or xs k 0)

pub returns-clause-first_less : goal.returns-clause-first_less
returns-clause-first_less g c =
    let sum : AreFour (2 * (4 * g.row.P)) c.add-low.result = record { four = c.add-low.ensures.four; less = λ k l. let first = c.requires.first.less k l in let less = c.opposite_four.ensures.less.less k l in rw (c.add-low.ensures.value k l) (omega arith) } in
    lane_reduced (4 * g.row.P) c.add-low.result c.less_of_difference.result sum c.less_of_difference.ensures.four c.less_of_difference.ensures.below c.less_of_difference.ensures.above

pub returns-clause-second_less : goal.returns-clause-second_less
returns-clause-second_less g c =
    let sum : AreFour (2 * (4 * g.row.P)) c.add-high.result = record { four = c.add-high.ensures.four; less = λ k l. let second = c.requires.second.less k l in let less = c.opposite_four-2.ensures.less.less k l in rw (c.add-high.ensures.value k l) (omega arith) } in
    lane_reduced (4 * g.row.P) c.add-high.result c.less_of_difference-2.result sum c.less_of_difference-2.ensures.four c.less_of_difference-2.ensures.below c.less_of_difference-2.ensures.above

pub returns-clause-first : goal.returns-clause-first
returns-clause-first g c = λ k l.
    let p = pos g.row.P in
    let product : ℤ = neg_ℤ (pos c.args.root) *ℤ lane c.args.third k in
    let taken = minus_times p (pos c.args.root) (lane c.args.third k) (lane c.times_four-part.result k) (lane c.opposite_four.result k) (c.opposite_four.ensures.same k l) (c.times_four-part.ensures.same k l) in
    let reduced = rw (c.add-low.ensures.value k l) at (lane_same g.row.P 4 (4 * g.row.P) c.add-low.result c.less_of_difference.result refl c.less_of_difference.ensures.below c.less_of_difference.ensures.above k l) in
    same_on p _ (lane c.args.first k +ℤ lane c.opposite_four.result k) (lane c.args.first k +ℤ product) reduced (same_added p (lane c.args.first k) (lane c.opposite_four.result k) product taken)

pub returns-clause-second : goal.returns-clause-second
returns-clause-second g c = λ k l.
    let p = pos g.row.P in
    let reduced = rw (c.add-high.ensures.value k l) at (lane_same g.row.P 4 (4 * g.row.P) c.add-high.result c.less_of_difference-2.result refl c.less_of_difference-2.ensures.below c.less_of_difference-2.ensures.above k l) in
    same_on p _ (lane c.args.second k +ℤ lane c.opposite_four-2.result k) (lane c.args.second k -ℤ lane c.args.third k) reduced (same_added p (lane c.args.second k) (lane c.opposite_four-2.result k) (neg_ℤ (lane c.args.third k)) (c.opposite_four-2.ensures.same k l))
