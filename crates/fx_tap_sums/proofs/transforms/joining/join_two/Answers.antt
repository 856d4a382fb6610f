use Rattle.std.proofs.Common.{arith, refl, ◌≡◌, ◌<◌, ◌^◌, ◌∙◌, ap, pos, ◌*ℤ◌, unsigned_abs, slice_index_or, to_z, of_z, w64, map}
use Rattle.std.proofs.lemmas.Int.{ints}
use Rattle.std.proofs.lemmas.List.{get_or-map, length-map}
use Rattle.fx_tap_sums.proofs.SmallSums.{held-in-64}
use Rattle.fx_tap_sums.proofs.transforms.joining.join_two.Goals as goal

pub returns-clause-sums : goal.returns-clause-sums
returns-clause-sums c = λ k within x both.
    let xs = c.less_number.result in
    let long = length-map xs (of_z w64) in
    let whole = length-map (map (of_z w64) xs) (to_z w64) in
    let l : k < 4 = omega (arith, c.less_number.ensures.four, long, whole, within) in
    let raised = c.raised_two.ensures.sums k (omega (arith, c.raised_two.ensures.less.four, l)) x both in
    let scaled = c.times_number.ensures.value k l in
    let lowered = c.less_number.ensures.value k l in
    let is : slice_index_or xs k (pos 0) ≡ pos 256 *ℤ x = omega (arith, ints) in
    let bound : unsigned_abs (pos 256 *ℤ x) < 2 ^ 63 = omega (arith, ints, both.small) in
    get_or-map (to_z w64) (map (of_z w64) xs) k 0 (pos 0) (omega (arith, long, c.less_number.ensures.four, l))
    ∙ ap (to_z w64) (get_or-map (of_z w64) xs k (pos 0) 0 (omega (arith, c.less_number.ensures.four, l)))
    ∙ rw (is, held-in-64 (pos 256 *ℤ x) bound) refl
