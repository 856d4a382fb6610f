use Rattle.std.proofs.Common.{arith, ◌≡◌, ◌<◌, ◌+◌, ◌-◌, ◌*◌, ◌/◌, ap, sym, ◌≤◌, ℕ, ℤ, pos, neg_ℤ, ◌*ℤ◌, length, get_or}
use Rattle.fx_tap_sums.specs.Residues.{Same}
use Rattle.fx_tap_sums.specs.Transform.{root_at}
use Rattle.fx_tap_sums.proofs.Leaves.{IsLeafNumber, leaves_are, roots_inside, number_of_first, number_of_first_wrapped, number_of_second, number_of_second_wrapped}
use Rattle.fx_tap_sums.proofs.Numbers.{neg-mul}
use Rattle.fx_tap_sums.proofs.Residues.{same_on, same_negated}
use Rattle.fx_tap_sums.proofs.Steps.{read_at}
use Rattle.fx_tap_sums.proofs.Writes.{four_more}
use Rattle.fx_tap_sums.proofs.transforms.leaves.write_leaves.Goals as goal

pub offset_bounds-roots-last : goal.offset_bounds-roots-last
offset_bounds-roots-last g c =
    omega (arith, roots_inside (length c.args.spectrum.now) c.args.place (length c.args.roots.now) c.requires.groups c.requires.roots, c.pairs-test.true)

pub bounds-roots-last : goal.bounds-roots-last
bounds-roots-last g c =
    omega (arith, roots_inside (length c.args.spectrum.now) c.args.place (length c.args.roots.now) c.requires.groups c.requires.roots, c.pairs-test.true)

pub pairs-preserved : goal.pairs-preserved
pairs-preserved g c =
    let p = g.row.P in
    let f = c.args.spectrum.now in
    let roots = c.args.roots.now in
    let pair : ℕ = c.pairs.pair in
    let last : ℕ = length f / 8 * (c.args.place + 1) - 1 in
    let r : ℤ = pos c.index-roots-last.result in
    let table = roots_inside (length f) c.args.place (length roots) c.requires.groups c.requires.roots in
    let inside : 8 * pair + 8 ≤ length f = omega (arith, c.pairs-test.true, c.requires.groups) in
    let read : c.index-roots-last.result ≡ get_or roots (last - pair) 0 = read_at roots (last - pair) c.index-roots-last.result (omega (arith, table, c.pairs-test.true)) c.index-roots-last.is in
    let root_is : root_at roots (last - pair) ≡ r = ap pos (sym read) in
    let one : (k : ℕ) → k < 4 → IsLeafNumber p roots last f (16 * pair + k) (get_or c.load-first.result k 0) = λ k l.
    number_of_first p roots last f pair k (get_or c.load-first.result k 0) l (rw (c.load-first.ensures.value k l) (c.requires.spectrum (8 * pair + k) (omega arith))) (c.load-first.ensures.value k l) in
    let two : (k : ℕ) → k < 4 → IsLeafNumber p roots last f (16 * pair + 4 + k) (get_or c.reduced_four-negated.result k 0) = λ k l.
    let x : ℤ = pos (get_or f (8 * pair + k) 0) in
    let by_root : ℤ = pos (get_or c.reduced_four-product.result k 0) in
    let product = rw (c.load-first.ensures.value k l) at (c.times_four.ensures.same k l) in
    let positive : Same (pos p) by_root (r *ℤ x) = same_on (pos p) by_root (pos (get_or c.times_four.result k 0)) (r *ℤ x) (c.reduced_four-product.ensures.same k l) product in
    let negative : Same (pos p) (pos (get_or c.opposite_four.result k 0)) (neg_ℤ (r *ℤ x)) = same_on (pos p) (pos (get_or c.opposite_four.result k 0)) (neg_ℤ by_root) (neg_ℤ (r *ℤ x)) (c.opposite_four.ensures.same k l) (same_negated (pos p) by_root (r *ℤ x) positive) in
    let is : Same (pos p) (pos (get_or c.reduced_four-negated.result k 0)) (neg_ℤ (r *ℤ x)) = same_on (pos p) (pos (get_or c.reduced_four-negated.result k 0)) (pos (get_or c.opposite_four.result k 0)) (neg_ℤ (r *ℤ x)) (c.reduced_four-negated.ensures.same k l) negative in
    number_of_first_wrapped p roots last f pair k (get_or c.reduced_four-negated.result k 0) l (c.reduced_four-negated.ensures.less.less k l) (rw (root_is, neg-mul r x) is) in
    let three : (k : ℕ) → k < 4 → IsLeafNumber p roots last f (16 * pair + 8 + k) (get_or c.load-second.result k 0) = λ k l.
    number_of_second p roots last f pair k (get_or c.load-second.result k 0) l (rw (c.load-second.ensures.value k l) (c.requires.spectrum (8 * pair + 4 + k) (omega arith))) (c.load-second.ensures.value k l) in
    let four : (k : ℕ) → k < 4 → IsLeafNumber p roots last f (16 * pair + 12 + k) (get_or c.reduced_four-second_product.result k 0) = λ k l.
    let x : ℤ = pos (get_or f (8 * pair + 4 + k) 0) in
    let product = rw (c.load-second.ensures.value k l) at (c.times_four-in-pairs.ensures.same k l) in
    let is : Same (pos p) (pos (get_or c.reduced_four-second_product.result k 0)) (r *ℤ x) = same_on (pos p) (pos (get_or c.reduced_four-second_product.result k 0)) (pos (get_or c.times_four-in-pairs.result k 0)) (r *ℤ x) (c.reduced_four-second_product.ensures.same k l) product in
    number_of_second_wrapped p roots last f pair k (get_or c.reduced_four-second_product.result k 0) l (c.reduced_four-second_product.ensures.less.less k l) (rw (← read) is) in
    let first = four_more (IsLeafNumber p roots last f) (16 * pair) c.pairs.leaves c.put.new.numbers c.load-first.result c.put.ensures.before c.put.ensures.put one c.pairs.invariant in
    let second = four_more (IsLeafNumber p roots last f) (16 * pair + 4) c.put.new.numbers c.put-in-pairs.new.numbers c.reduced_four-negated.result c.put-in-pairs.ensures.before c.put-in-pairs.ensures.put two first in
    let third = four_more (IsLeafNumber p roots last f) (16 * pair + 8) c.put-in-pairs.new.numbers c.put-in-pairs-2.new.numbers c.load-second.result c.put-in-pairs-2.ensures.before c.put-in-pairs-2.ensures.put three (λ i lt. second i (omega (arith, lt))) in
    let fourth = four_more (IsLeafNumber p roots last f) (16 * pair + 12) c.put-in-pairs-2.new.numbers c.put-in-pairs-3.new.numbers c.reduced_four-second_product.result c.put-in-pairs-3.ensures.before c.put-in-pairs-3.ensures.put four (λ i lt. third i (omega (arith, lt))) in
    λ i lt. fourth i (omega (arith, lt))

pub returns-clause-are : goal.returns-clause-are
returns-clause-are g c =
    let f = c.args.spectrum.now in
    leaves_are g.row.P c.args.roots.now (length f / 8 * (c.args.place + 1) - 1) (length f / 8) f c.pairs.leaves (omega (arith, c.requires.groups)) (omega (arith, c.pairs.auto.leaves, c.requires.long)) (λ i lt. c.pairs.invariant i (omega (arith, lt, c.pairs-test.false)))
