use Rattle.std.proofs.Common.{ℕ, List, pos, slice_index_or}
use Rattle.fx_tap_sums.proofs.Residues.{times_apart}
use Rattle.fx_tap_sums.proofs.transforms.lanes.gather_open.Goals as goal

pub returns-clause-minus : goal.returns-clause-minus
returns-clause-minus g c = λ k l.
    let lane = λ (xs : List ℕ). pos (slice_index_or xs k 0) in
    times_apart (pos g.row.P) (pos c.args.inverse) (lane c.args.low) (lane c.args.high) (lane c.opposite_four.result) (lane c.times_four.result) (rw (c.add-2.ensures.value k l) at (c.times_four.ensures.same k l)) (c.opposite_four.ensures.same k l)
