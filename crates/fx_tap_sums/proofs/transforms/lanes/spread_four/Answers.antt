use Rattle.std.proofs.Common.{ℕ, ℤ, List, pos, neg_ℤ, ◌*ℤ◌, slice_index_or}
use Rattle.fx_tap_sums.proofs.Residues.{minus_times, same_added}
use Rattle.fx_tap_sums.proofs.transforms.lanes.spread_four.Goals as goal

abbrev lane : List ℕ → ℕ → ℤ
lane xs k = pos (slice_index_or xs k 0)

pub returns-clause-plus : goal.returns-clause-plus
returns-clause-plus g c = λ k l.
    rw (c.add.ensures.value k l) (same_added (pos g.row.P) (lane c.args.low k) (lane c.times_four-part.result k) (pos c.args.root *ℤ lane c.args.high k) (c.times_four-part.ensures.same k l))

pub returns-clause-minus : goal.returns-clause-minus
returns-clause-minus g c = λ k l.
    rw (c.add-2.ensures.value k l) (same_added (pos g.row.P) (lane c.args.low k) (lane c.opposite_four.result k) (neg_ℤ (pos c.args.root) *ℤ lane c.args.high k)
    (minus_times (pos g.row.P) (pos c.args.root) (lane c.args.high k) (lane c.times_four-part.result k) (lane c.opposite_four.result k) (c.opposite_four.ensures.same k l) (c.times_four-part.ensures.same k l)))
