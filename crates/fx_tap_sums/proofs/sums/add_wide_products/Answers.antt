use Rattle.std.proofs.Common.{rules, ◌≡◌, ◌<◌, ◌≤◌, ◌^◌, ◌∙◌, refl, List, ℕ, ℤ, pos, ◌+ℤ◌, ◌*ℤ◌, length, arith, slice_index_or, unsigned_abs, to_z, of_z, w32}
use Rattle.std.proofs.lemmas.List.{get_or-set_other}
use Rattle.fx_tap_sums.proofs.Fitting.{wide-fits}
use Rattle.fx_tap_sums.proofs.SmallSums.{product-added, wide-bound}
use Rattle.fx_tap_sums.proofs.Magnitudes.{added-bound}
use Rattle.fx_tap_sums.proofs.SumLaws.{added-more, bound-at-more}
use Rattle.fx_tap_sums.proofs.sums.add_wide_products.Goals as goal

pub overflow_add-sums : goal.overflow_add-sums
overflow_add-sums c =
    let i : ℕ = c.loop-place.place in
    let s : ℤ = slice_index_or c.loop-place.sums i (pos 0) in
    let w : ℤ = c.args.weight in
    let x : ℤ = slice_index_or c.args.samples.now i (pos 0) in
    let first : s ≡ slice_index_or c.args.sums.now i (pos 0) = c.loop-place.invariant.left i (omega arith) in
    let sample : unsigned_abs x ≤ 2 ^ 34 = c.requires.samples i in
    (product-added s w x c.from-factor.result x (search rules) refl (omega (arith, c.requires.weight)) (omega (arith, sample)) (wide-bound w x c.requires.weight sample) (rw first (omega (arith, c.requires.free i)))).0

pub loop-place-preserved : goal.loop-place-preserved
loop-place-preserved c =
    let i : ℕ = c.loop-place.place in
    let old : List ℤ = c.args.sums.now in
    let sums : List ℤ = c.loop-place.sums in
    let s : ℤ = slice_index_or sums i (pos 0) in
    let w : ℤ = c.args.weight in
    let x : ℤ = slice_index_or c.args.samples.now i (pos 0) in
    let first : s ≡ slice_index_or old i (pos 0) = c.loop-place.invariant.left i (omega arith) in
    let sample : unsigned_abs x ≤ 2 ^ 34 = c.requires.samples i in
    let weight : to_z w32 (of_z w32 w) ≡ w = search rules in
    let z : ℤ = s +ℤ (w *ℤ x) in
    let next = product-added s w x c.from-factor.result x (search rules) refl (omega (arith, c.requires.weight)) (omega (arith, sample)) (wide-bound w x c.requires.weight sample) (rw first (omega (arith, c.requires.free i))) in
    let in_range : i < length sums = search rules in
    rw (next.1, weight)
    record {
      added = added-more old sums (λ k. w *ℤ slice_index_or c.args.samples.now k (pos 0)) i z in_range (rw first refl) (rw weight at c.loop-place.invariant.added);
      bound = bound-at-more old sums i (2 ^ 58) z in_range (rw first (added-bound (slice_index_or old i (pos 0)) (w *ℤ x) _ _ (omega arith) (wide-bound w x c.requires.weight sample))) c.loop-place.invariant.bound;
      left = λ k l. get_or-set_other sums i k z (pos 0) (λ e. omega arith) ∙ c.loop-place.invariant.left k (omega arith);
    }

pub overflow_mul-sums : goal.overflow_mul-sums
overflow_mul-sums c =
    let f : c.from-factor.result ≡ c.args.weight = search rules in
    wide-fits c.args.weight (slice_index_or c.args.samples.now c.loop-place.place (pos 0)) c.from-factor.result f c.requires.weight (c.requires.samples c.loop-place.place)
