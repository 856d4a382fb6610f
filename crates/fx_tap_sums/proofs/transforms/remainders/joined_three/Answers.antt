use Rattle.std.proofs.Common.{arith, ◌≡◌, ◌≤◌, ◌*ℤ◌, ◌+ℤ◌, pos, unsigned_abs, w64}
use Rattle.std.proofs.lemmas.Int.{ints, fits_signed_from_abs}
use Rattle.fx_tap_sums.proofs.Remainders.{three_is, joined_held}
use Rattle.fx_tap_sums.proofs.SmallSums.{held-in-64}
use Rattle.fx_tap_sums.proofs.transforms.remainders.joined_three.Goals as goal

pub overflow_mul-result : goal.overflow_mul-result
overflow_mul-result c =
    let x = c.requires.is in
    let determined = three_is c.args.first c.args.second c.args.third c.times-turns.result c.times-whole.result c.times-part.result c.reduced.result c.centred-pairs.result x.0 c.requires.first c.times-turns.ensures.less c.times-part.ensures.less c.centred-pairs.ensures.small x.1.small x.1.modulo_first x.1.modulo_second x.1.modulo_third
    (rw c.of-by_first.ensures at c.times-turns.ensures.same) (rw c.of-by_pair.ensures at c.times-whole.ensures.same) (rw c.of-by_second.ensures at c.times-part.ensures.same) c.reduced.ensures.same c.centred-pairs.ensures.same in
    let small : unsigned_abs c.centred-pairs.result ≤ 200 = determined.0 in
    omega (arith, ints)

pub overflow_add-result-2 : goal.overflow_add-result-2
overflow_add-result-2 c =
    let x = c.requires.is in
    let determined = three_is c.args.first c.args.second c.args.third c.times-turns.result c.times-whole.result c.times-part.result c.reduced.result c.centred-pairs.result x.0 c.requires.first c.times-turns.ensures.less c.times-part.ensures.less c.centred-pairs.ensures.small x.1.small x.1.modulo_first x.1.modulo_second x.1.modulo_third
    (rw c.of-by_first.ensures at c.times-turns.ensures.same) (rw c.of-by_pair.ensures at c.times-whole.ensures.same) (rw c.of-by_second.ensures at c.times-part.ensures.same) c.reduced.ensures.same c.centred-pairs.ensures.same in
    let small : unsigned_abs c.centred-pairs.result ≤ 200 = determined.0 in
    let sum = joined_held c.args.first c.times-turns.result c.centred-pairs.result c.from-3.result c.from.result c.from-2.result c.from-3.ensures c.from.ensures c.from-2.ensures c.requires.first c.times-turns.ensures.less small in
    rw sum (fits_signed_from_abs w64 _ (omega (arith, ints, small, c.times-turns.ensures.less)))

pub returns : goal.returns
returns c = λ x has.
    let determined = three_is c.args.first c.args.second c.args.third c.times-turns.result c.times-whole.result c.times-part.result c.reduced.result c.centred-pairs.result x c.requires.first c.times-turns.ensures.less c.times-part.ensures.less c.centred-pairs.ensures.small has.small has.modulo_first has.modulo_second has.modulo_third
    (rw c.of-by_first.ensures at c.times-turns.ensures.same) (rw c.of-by_pair.ensures at c.times-whole.ensures.same) (rw c.of-by_second.ensures at c.times-part.ensures.same) c.reduced.ensures.same c.centred-pairs.ensures.same in
    let small : unsigned_abs c.centred-pairs.result ≤ 200 = determined.0 in
    let is : x ≡ (pos c.args.first +ℤ (pos 134348801 *ℤ pos c.times-turns.result)) +ℤ (pos 18155256526405633 *ℤ c.centred-pairs.result) = determined.1 in
    let sum = joined_held c.args.first c.times-turns.result c.centred-pairs.result c.from-3.result c.from.result c.from-2.result c.from-3.ensures c.from.ensures c.from-2.ensures c.requires.first c.times-turns.ensures.less small in
    rw (sum, held-in-64 ((c.centred-pairs.result *ℤ pos 18155256526405633) +ℤ ((pos c.times-turns.result *ℤ pos 134348801) +ℤ pos c.args.first)) (omega (arith, ints, small, c.times-turns.ensures.less))) (omega (arith, ints, is))
