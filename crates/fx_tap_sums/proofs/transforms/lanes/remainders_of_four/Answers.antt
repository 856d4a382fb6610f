use Rattle.std.proofs.Common.{pos, slice_index_or}
use Rattle.fx_tap_sums.specs.Residues.{Same}
use Rattle.fx_tap_sums.proofs.Numbers.{one-times}
use Rattle.fx_tap_sums.proofs.Residues.{same_on}
use Rattle.fx_tap_sums.proofs.transforms.lanes.remainders_of_four.Goals as goal

pub returns-clause-same : goal.returns-clause-same
returns-clause-same g c = λ k l.
    let p = pos g.row.P in
    let number = pos (slice_index_or c.args.numbers k 0) in
    let once : Same p (pos (slice_index_or c.times_four.result k 0)) number = rw (c.of-one.ensures, one-times number) at (c.times_four.ensures.same k l) in
    same_on p (pos (slice_index_or c.reduced_four.result k 0)) (pos (slice_index_or c.times_four.result k 0)) number (c.reduced_four.ensures.same k l) once
