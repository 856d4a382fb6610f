use Rattle.std.proofs.Common.{rules, ◌≡◌, ◌<◌, ◌≤◌, ◌≢◌, ◌+◌, ◌^◌, ◌∙◌, refl, ap, ℕ, ℤ, List, pos, ◌+ℤ◌, length, arith, slice_index_or, unsigned_abs, FitsSigned, to_z, of_z, get_or-set_other, get_or-set_same, below_more, w32, w64}
use Rattle.std.proofs.lemmas.Int.{ints}
use Rattle.fx_tap_sums.proofs.SmallSums.{held-in-64, wide-two}
use Rattle.fx_tap_sums.proofs.Magnitudes.{added-bound}
use Rattle.fx_tap_sums.proofs.sums.add_samples.Goals as goal

pub loop-place-preserved : goal.loop-place-preserved
loop-place-preserved c =
    let i : ℕ = c.loop-place.place in
    let out : List ℤ = c.loop-place.out in
    let a : ℤ = slice_index_or c.args.samples.now i (pos 0) in
    let b : ℤ = slice_index_or c.args.wide.now i (pos 0) in
    let fits : FitsSigned w32 a = search rules in
    let small : unsigned_abs a ≤ 2 ^ 31 = omega (arith, ints) in
    let wide : unsigned_abs b ≤ 2 ^ 34 = c.requires.wide i in
    let f : c.from.result ≡ a = search rules in
    let maximum = added-bound a b (2 ^ 31) (2 ^ 34) small wide in
    let value : to_z w64 (of_z w64 (to_z w64 (of_z w64 c.from.result) +ℤ to_z w64 (of_z w64 b))) ≡ a +ℤ b =
    ap (λ z. to_z w64 (of_z w64 z)) (wide-two a b c.from.result b f refl small wide) ∙ held-in-64 (a +ℤ b) (omega (arith, maximum)) in
    let inside : i < length out = search rules in
    let bound : unsigned_abs (a +ℤ b) ≤ unsigned_abs b + 2 ^ 31 = omega (arith, added-bound a b (2 ^ 31) (unsigned_abs b) small (omega arith)) in
    rw value
    record {
      added = below_more _ _
          (λ k h. let ne : k ≢ i = omega arith in get_or-set_other out i k (a +ℤ b) (pos 0) ne ∙ c.loop-place.invariant.added k h)
          (get_or-set_same out i (a +ℤ b) (pos 0) inside);
      bound = below_more _ _
          (λ k h. let ne : k ≢ i = omega arith in rw (get_or-set_other out i k (a +ℤ b) (pos 0) ne) (c.loop-place.invariant.bound k h))
          (rw (get_or-set_same out i (a +ℤ b) (pos 0) inside) bound);
    }
