use Rattle.std.proofs.Common.{arith, ◌≡◌, ◌-◌, ◌*◌, ◌∙◌, ap, slice_index_or}
use Rattle.fx_tap_sums.proofs.Vectors.{opposite_same, splat_at}
use Rattle.fx_tap_sums.proofs.transforms.lanes.opposite_four.Goals as goal

pub returns-clause-same : goal.returns-clause-same
returns-clause-same g c = λ k l.
    let is : slice_index_or c.subtract.result k 0 ≡ g.row.TIMES * g.row.P - slice_index_or c.args.numbers k 0 = c.subtract.ensures.value k l ∙ ap (λ z. z - slice_index_or c.args.numbers k 0) (splat_at (g.row.TIMES * g.row.P) k l) in
    rw is (opposite_same g.row.P g.row.TIMES (slice_index_or c.args.numbers k 0) (omega (arith, c.requires.numbers.less k l)))
