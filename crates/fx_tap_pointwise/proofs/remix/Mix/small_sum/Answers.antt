use Rattle.std.proofs.Common.{rules, ◌≡◌, ◌<◌, ◌≤◌, ◌+◌, ◌^◌, ◌∙◌, ℕ, ℤ, List, pos, map, ◌+ℤ◌, ◌*ℤ◌, length, arith, slice_index_or, unsigned_abs, to_z, of_z, w32, w64, FitsSigned}
use Rattle.std.proofs.lemmas.Int.{ints, fits_signed_from_abs, to_z-of_z}
use Rattle.std.proofs.lemmas.List.{length-map}
use Rattle.fx_tap_pointwise.specs.Mix.{pair_of}
use Rattle.fx_tap_pointwise.proofs.MixLaws.{gathered, mixing-next}
use Rattle.fx_tap_sums.proofs.Convolving.{Adding, Adding-bound}
use Rattle.fx_tap_sums.proofs.SmallSums.{plain-product-64}
use Rattle.fx_tap_pointwise.proofs.remix.Mix.small_sum.Goals as goal
use Rattle.fx_tap_pointwise.proofs.remix.Mix.small_sum.Goals.{After-from-in-contributions}

-- the product that the code makes, and the sum with it, which fits
next : (c : After-from-in-contributions) → let p = slice_index_or c.args.samples.now c.index.result.now.channel (pos 0) *ℤ slice_index_or c.args.weights.now c.contributions.place (pos 0) in let z = to_z w64 c.contributions.sum-bits +ℤ p in
    (to_z w64 (of_z w64 (to_z w64 (of_z w64 c.from.result) *ℤ to_z w64 (of_z w64 c.from-in-contributions.result))) ≡ p) × FitsSigned w64 z × Adding (gathered (map pair_of c.self.inside.contributions.items) c.args.samples.now) c.args.weights.now (c.contributions.place + 1) z
next c =
    let items = c.self.inside.contributions.items in
    let k : ℕ = c.contributions.place in
    let ws : List ℤ = c.args.weights.now in
    let s : ℤ = to_z w64 c.contributions.sum-bits in
    let x : ℤ = slice_index_or c.args.samples.now c.index.result.now.channel (pos 0) in
    let w : ℤ = slice_index_or ws k (pos 0) in
    let count = rw (← c.self.view_is) at c.requires.count in
    let inside : k < length items = omega (arith, c.contributions-test.true, c.len-place-end.ensures) in
    let in_ws : k < length ws = omega (arith, inside, count, length-map items pair_of) in
    let sample_fits : FitsSigned w32 x = search rules in
    let sample : unsigned_abs x ≤ 2 ^ 31 = omega (arith, ints) in
    let weight_fits : FitsSigned w32 w = search rules in
    let weight : unsigned_abs w ≤ 2 ^ 31 = omega (arith, ints) in
    let f : c.from.result ≡ x = c.from.ensures ∙ search rules ∙ c.sample_or_silence-sample.ensures in
    let y : c.from-in-contributions.result ≡ w = c.from-in-contributions.ensures ∙ search rules in
    let old : Adding (gathered (map pair_of items) c.args.samples.now) ws k s = rw (← c.self.view_is) at c.contributions.invariant in
    let more = mixing-next items c.args.samples.now ws k c.index.result.now s inside in_ws c.index.ensures sample old in
    let bound = Adding-bound (gathered (map pair_of items) c.args.samples.now) ws _ (s +ℤ (x *ℤ w)) more in
    (plain-product-64 x w c.from.result c.from-in-contributions.result f y sample weight, fits_signed_from_abs w64 (s +ℤ (x *ℤ w)) (omega (arith, bound)), more)

pub overflow_add-sum : goal.overflow_add-sum
overflow_add-sum c = let n = next (goal.at.overflow_add-sum c).After-from-in-contributions in rw n.0 n.1

pub contributions-preserved : goal.contributions-preserved
contributions-preserved c =
    let n = next (goal.at.contributions-preserved c).After-from-in-contributions in
    rw (n.0, to_z-of_z w64 _ n.1, ← c.self.view_is) n.2
