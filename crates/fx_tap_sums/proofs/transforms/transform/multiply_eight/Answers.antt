use Rattle.std.proofs.Common.{arith, ◌<◌, ◌≤◌, ◌≡◌, ◌+◌, ◌-◌, ◌*◌, ◌^◌, ◌∙◌, ap, refl, ℤ, pos, neg_ℤ, length, take, drop, slice_index_or, inl, inr}
use Rattle.std.proofs.lemmas.Bool.{cases_lt}
use Rattle.std.proofs.lemmas.List.{length-take-le, length-drop}
use Rattle.fx_tap_sums.specs.Residues.{AreFour, inverse_of_word}
use Rattle.fx_tap_sums.specs.Transform.{combined, root_at}
use Rattle.fx_tap_sums.proofs.Cyclic.{length-combined}
use Rattle.fx_tap_sums.proofs.Leaves.{first_weights, first_wrapped, second_weights, second_wrapped}
use Rattle.fx_tap_sums.proofs.Steps.{Halved, halved, both_transforms, one_transform, combined_same, loaded_front, loaded_back, product_at}
use Rattle.fx_tap_sums.proofs.Writes.{four_loaded}
use Rattle.fx_tap_sums.proofs.transforms.transform.multiply_eight.Goals as goal

pub multiply_four-low-requires-clause-numbers : goal.multiply_four-low-requires-clause-numbers
multiply_four-low-requires-clause-numbers g c =
    let p = g.row.P in
    let less : AreFour (20 * p + 2 * p) c.spread_four.result.0 = c.spread_four.ensures.low (20 * p) (four_loaded (20 * p) 0 c.args.values.now c.load.result c.requires.values c.load.ensures.four (omega (arith, c.requires.eight)) c.load.ensures.value) in
    let bound : 20 * p + 2 * p ≡ 22 * p = omega arith in
    rw bound at less

pub multiply_four-high-requires-clause-numbers : goal.multiply_four-high-requires-clause-numbers
multiply_four-high-requires-clause-numbers g c =
    let p = g.row.P in
    let less : AreFour (20 * p + 2 * p) c.spread_four.result.1 = c.spread_four.ensures.high (20 * p) (four_loaded (20 * p) 0 c.args.values.now c.load.result c.requires.values c.load.ensures.four (omega (arith, c.requires.eight)) c.load.ensures.value) in
    let bound : 20 * p + 2 * p ≡ 22 * p = omega arith in
    rw bound at less

pub returns-clause-values : goal.returns-clause-values
returns-clause-values g c = λ i lt. elim (cases_lt i 4) [
  | inl below ↦
      let first : 0 + i ≡ i = omega arith in
      let is : slice_index_or c.put-2.new.numbers i 0 ≡ slice_index_or c.gather_four.result.0 i 0 = c.put-2.ensures.before i below ∙ rw first at (c.put.ensures.put i below) in
      rw is (c.gather_four.ensures.low.less i below)
  | inr above ↦
      let place : 4 + (i - 4) ≡ i = omega arith in
      let k : i - 4 < 4 = omega (arith, lt, c.put.auto.numbers, c.put-2.auto.numbers, c.requires.eight) in
      rw place at (rw (← c.put-2.ensures.put (i - 4) k) at (c.gather_four.ensures.high.less (i - 4) k))
]

pub returns-clause-product : goal.returns-clause-product
returns-clause-product g c = λ roots place at_root s a h f square_at a_as_long h_as_long same transform leaves_are.
    let a_long : length a ≡ 8 = a_as_long ∙ c.requires.eight in
    let h_long : length h ≡ 8 = h_as_long ∙ c.requires.eight in
    let last : 2 ^ (1 - 1) * (place + 1) - 1 ≡ place = omega arith in
    let are = rw last at leaves_are in
    let p = g.row.P in
    let v = c.args.values.now in
    let leaves = c.args.leaves.now in
    let r : ℤ = pos c.args.root in
    let half : Halved 1 8 0 4 = halved 1 8 refl (omega arith) in
    let root_is : root_at roots place ≡ r = ap pos at_root in
    let square = rw at_root at square_at in
    let parts = rw root_is at (both_transforms p roots 1 8 0 4 place h f half transform) in
    let v_long : 8 ≤ length v = omega (arith, c.requires.eight) in
    let f_long : 8 ≤ length f = omega (arith, are.long, c.requires.as_many) in
    let second = one_transform p roots 0 (2 * place) (combined r (drop 4 h) (take 4 h)) (drop 4 f) refl parts.0 in
    let first = one_transform p roots 0 (2 * place + 1) (combined (neg_ℤ r) (drop 4 h) (take 4 h)) (take 4 f) refl parts.1 in
    let a0 = length-take-le 4 a (omega arith) in
    let a1 = length-drop 4 a in
    let h0 = length-take-le 4 h (omega arith) in
    let h1 = length-drop 4 h in
    let low = loaded_front p v c.load.result a c.load.ensures.four (omega (arith, v_long)) c.load.ensures.value same in
    let high = loaded_back p v c.load-2.result a c.load-2.ensures.four v_long c.load-2.ensures.value same in
    let loaded = four_loaded (20 * p) 0 v c.load.result c.requires.values c.load.ensures.four (omega (arith, v_long)) c.load.ensures.value in
    let plus_four = (c.spread_four.ensures.low (20 * p) loaded).four in
    let minus_four = (c.spread_four.ensures.high (20 * p) loaded).four in
    let low_four = c.load.ensures.four in
    let high_four = c.load-2.ensures.four in
    let x = combined_same p r (take 4 a) (drop 4 a) c.load.result c.load-2.result c.spread_four.result.0 (omega arith) (omega arith) (omega arith) (omega arith) low high (λ i lt. c.spread_four.ensures.plus i (omega arith)) in
    let y = combined_same p (neg_ℤ r) (take 4 a) (drop 4 a) c.load.result c.load-2.result c.spread_four.result.1 (omega arith) (omega arith) (omega arith) (omega arith) low high (λ i lt. c.spread_four.ensures.minus i (omega arith)) in
    let left_a = length-combined r (take 4 a) (drop 4 a) (omega arith) in
    let left_h = length-combined r (drop 4 h) (take 4 h) (omega arith) in
    let right_a = length-combined (neg_ℤ r) (take 4 a) (drop 4 a) (omega arith) in
    let right_h = length-combined (neg_ℤ r) (drop 4 h) (take 4 h) (omega arith) in
    let left = c.multiply_four-low.ensures.product r (combined r (take 4 a) (drop 4 a)) (combined r (drop 4 h) (take 4 h)) (omega arith) (omega arith) x (record { weights = second_weights p roots place f leaves _ f_long are second; wrapped = second_wrapped p roots place c.args.root f leaves at_root (omega (arith, f_long)) are }) in
    let right = c.multiply_four-high.ensures.product (neg_ℤ r) (combined (neg_ℤ r) (take 4 a) (drop 4 a)) (combined (neg_ℤ r) (drop 4 h) (take 4 h)) (omega arith) (omega arith) y (record { weights = first_weights p roots place f leaves _ (omega (arith, f_long)) are first; wrapped = first_wrapped p roots place c.args.root f leaves at_root (omega (arith, f_long)) are }) in
    product_at p 4 1 (inverse_of_word p) s r (pos c.args.inverse) a h c.multiply_four-low.result c.multiply_four-high.result c.put-2.new.numbers refl a_long h_long square c.requires.inverse left right
    (λ i lt.
    let first : 0 + i ≡ i = omega arith in
    let is : slice_index_or c.put-2.new.numbers i 0 ≡ slice_index_or c.gather_four.result.0 i 0 = c.put-2.ensures.before i lt ∙ rw first at (c.put.ensures.put i lt) in
    rw is (c.gather_four.ensures.plus i lt))
    (λ i lt. rw (c.put-2.ensures.put i lt) (c.gather_four.ensures.minus i lt))
