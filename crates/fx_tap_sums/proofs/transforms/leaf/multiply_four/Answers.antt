use Rattle.std.proofs.Common.{arith, ◌≤◌, ◌<◌, ◌+◌, ◌*◌, ◌∙◌, ℕ, get_or, refl}
use Rattle.fx_tap_sums.specs.Residues.{inverse_of_word}
use Rattle.fx_tap_sums.proofs.Leaf.{LeafProducts, at_four, four_from, leaf_products, leaf_reversed, leaf_sums_are, four_products_less}
use Rattle.fx_tap_sums.proofs.Words.{square_fits}
use Rattle.fx_tap_sums.proofs.transforms.leaf.multiply_four.Given as given
use Rattle.fx_tap_sums.proofs.transforms.leaf.multiply_four.Goals.{After-multiply_wide-four}
use Rattle.fx_tap_sums.proofs.transforms.leaf.multiply_four.Goals as goal

products : (g : given.Over) (c : After-multiply_wide-four g) → LeafProducts c.args.leaves.now c.args.at c.args.numbers c.multiply_wide-one.result c.multiply_wide-two.result c.multiply_wide-three.result c.multiply_wide-four.result
products g c =
    leaf_products c.args.leaves.now c.args.at c.args.numbers c.load.result c.load-2.result c.load-3.result c.load-4.result c.multiply_wide-one.result c.multiply_wide-two.result c.multiply_wide-three.result c.multiply_wide-four.result c.requires.numbers.four
    c.load.ensures.value c.load-2.ensures.value c.load-3.ensures.value c.load-4.ensures.value c.multiply_wide-one.ensures.value c.multiply_wide-two.ensures.value c.multiply_wide-three.ensures.value c.multiply_wide-four.ensures.value

less : (g : given.Over) (c : After-multiply_wide-four g) → let p = g.row.P in (k : ℕ) → k < 4 →
    (get_or c.multiply_wide-one.result k 0 + p ≤ 22 * p * p) × (get_or c.multiply_wide-two.result k 0 + p ≤ 22 * p * p) × (get_or c.multiply_wide-three.result k 0 + p ≤ 22 * p * p) × (get_or c.multiply_wide-four.result k 0 + p ≤ 22 * p * p)
less g c = four_products_less g.row.P c.args.leaves.now c.args.at c.args.numbers _ _ _ _ (omega (arith, c.requires.modulus)) c.requires.numbers c.requires.inside c.requires.leaves (products g c)

pub add_wide-requires-clause-fits : goal.add_wide-requires-clause-fits
add_wide-requires-clause-fits g c = λ k l.
    let b = less g (goal.at.add_wide-requires-clause-fits g c).After-multiply_wide-four k l in
    omega (arith, b.0, b.1, square_fits g.row.P c.requires.modulus)

pub add_wide-requires-2-clause-fits : goal.add_wide-requires-2-clause-fits
add_wide-requires-2-clause-fits g c = λ k l.
    let b = less g (goal.at.add_wide-requires-2-clause-fits g c).After-multiply_wide-four k l in
    omega (arith, b.2, b.3, square_fits g.row.P c.requires.modulus)

pub add_wide-requires-3-clause-fits : goal.add_wide-requires-3-clause-fits
add_wide-requires-3-clause-fits g c = λ k l.
    let b = less g (goal.at.add_wide-requires-3-clause-fits g c).After-multiply_wide-four k l in
    rw (c.add_wide.ensures.value k l, c.add_wide-2.ensures.value k l) (omega (arith, b.0, b.1, b.2, b.3, square_fits g.row.P c.requires.modulus))

pub reduced_sums-requires-clause-sums : goal.reduced_sums-requires-clause-sums
reduced_sums-requires-clause-sums g c = record {
  four = c.add_wide-3.ensures.four;
  less = λ k l.
      let b = less g (goal.at.reduced_sums-requires-clause-sums g c).After-multiply_wide-four k l in
      rw (c.add_wide-3.ensures.value k l, c.add_wide.ensures.value k l, c.add_wide-2.ensures.value k l) (omega (arith, b.0, b.1, b.2, b.3, c.requires.modulus));
}

pub returns-clause-product : goal.returns-clause-product
returns-clause-product g c = λ s a h a_long h_long numbers leaf.
    let leaves = c.args.leaves.now in
    let at = c.args.at in
    let are = leaf_sums_are leaves at c.args.numbers _ _ _ _ c.add_wide-3.result (products g (goal.at.returns-clause-product g c).After-multiply_wide-four) (λ k l. c.add_wide-3.ensures.value k l ∙ rw (c.add_wide.ensures.value k l, c.add_wide-2.ensures.value k l) refl) in
    leaf_reversed g.row.P (inverse_of_word g.row.P) s a h c.args.numbers (four_from leaves at) (four_from leaves (at + 4)) c.reduced_sums.result a_long h_long c.reduced_sums.ensures.less.four
    (λ k l. numbers k (rw c.requires.numbers.four l))
    (λ k l. rw (at_four leaves at k l) (leaf.weights k l))
    (λ k l. rw (at_four leaves (at + 4) k l, at_four leaves at k l) (leaf.wrapped k l))
    (λ k l. rw (are k l) at (c.reduced_sums.ensures.same k l))
