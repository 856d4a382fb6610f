use Rattle.std.proofs.Common.{ℕ, ℤ, List, pos, ◌*ℤ◌, slice_index_or, ◌-ℤ◌}
use Rattle.fx_tap_sums.proofs.Residues.{same_added, times_apart}
use Rattle.fx_tap_sums.proofs.transforms.lanes.split_four_of_thirds.Goals as goal

abbrev lane : List ℕ → ℕ → ℤ
lane xs k = pos (slice_index_or xs k 0)

pub returns-clause-first : goal.returns-clause-first
returns-clause-first g c = λ k l.
    rw (c.add.ensures.value k l) (same_added (pos g.row.P) (lane c.args.third k) (lane c.times_four-taken.result k) (pos c.args.half *ℤ (lane c.args.first k -ℤ lane c.args.third k))
    (times_apart (pos g.row.P) (pos c.args.half) (lane c.args.first k) (lane c.args.third k) (lane c.opposite_four.result k) _ (rw (c.add-part.ensures.value k l) at (c.times_four-taken.ensures.same k l)) (c.opposite_four.ensures.same k l)))

pub returns-clause-second : goal.returns-clause-second
returns-clause-second g c = λ k l.
    rw (c.add-2.ensures.value k l) (same_added (pos g.row.P) (lane c.args.second k) (lane c.times_four-turned.result k) (pos c.args.turned_half *ℤ (lane c.args.first k -ℤ lane c.args.third k))
    (times_apart (pos g.row.P) (pos c.args.turned_half) (lane c.args.first k) (lane c.args.third k) (lane c.opposite_four.result k) _ (rw (c.add-part.ensures.value k l) at (c.times_four-turned.ensures.same k l)) (c.opposite_four.ensures.same k l)))

pub returns-clause-third : goal.returns-clause-third
returns-clause-third g c = λ k l.
    times_apart (pos g.row.P) (pos c.args.half) (lane c.args.first k) (lane c.args.third k) (lane c.opposite_four.result k) _ (rw (c.add-part.ensures.value k l) at (c.times_four-taken.ensures.same k l)) (c.opposite_four.ensures.same k l)
