use Rattle.std.proofs.Common.{arith, ◌<◌, ◌≡◌, ◌+◌, ◌-◌, ◌*◌, ◌∙◌, ap, pos, ◌*ℤ◌, slice_index_or}
use Rattle.fx_tap_sums.specs.Residues.{Same}
use Rattle.fx_tap_sums.proofs.Joining.{raised_is}
use Rattle.fx_tap_sums.proofs.Residues.{same_on}
use Rattle.fx_tap_sums.proofs.Vectors.{splat_at}
use Rattle.fx_tap_sums.proofs.transforms.joining.raised_two.Goals as goal

pub returns-clause-sums : goal.returns-clause-sums
returns-clause-sums c = λ k within x both.
    let l : k < 4 = omega (arith, c.add_wide.ensures.four, within) in
    let first = slice_index_or c.args.first k 0 in
    let second = slice_index_or c.args.second k 0 in
    let product = slice_index_or c.times_four.result k 0 in
    let turns = slice_index_or c.reduced_four-turns.result k 0 in
    let difference : slice_index_or c.add-difference.result k 0 ≡ second + (1081475080 - first) = c.add-difference.ensures.value k l ∙ ap (λ z. second + z) (c.subtract.ensures.value k l ∙ ap (λ z. z - first) (splat_at 1081475080 k l)) in
    let times : Same (pos 135135233) (pos product) (pos 112612866 *ℤ pos (second + (1081475080 - first))) = rw (c.of-inverse.ensures, difference) at (c.times_four.ensures.same k l) in
    let by = same_on (pos 135135233) (pos turns) (pos product) (pos 112612866 *ℤ pos (second + (1081475080 - first))) (c.reduced_four-turns.ensures.same k l) times in
    let whole : slice_index_or c.multiply_wide.result k 0 ≡ turns * 134348801 = c.multiply_wide.ensures.value k l ∙ ap (λ z. turns * z) (splat_at 134348801 k l) in
    rw (c.add_wide.ensures.value k l, whole, c.widen.ensures.value k l) (raised_is first second turns x (c.requires.first.less k l) (c.reduced_four-turns.ensures.less.less k l) both by)
