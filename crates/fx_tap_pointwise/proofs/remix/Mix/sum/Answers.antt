use Rattle.std.proofs.Common.{rules, refl, ◌≡◌, ◌≤◌, ◌^◌, ◌∙◌, ap, sym, pos, map, length, unsigned_abs, ℤ, arith, slice_index_or, ◌+ℤ◌, ◌*ℤ◌, FitsSigned, to_z, of_z, w32, w64}
use Rattle.std.proofs.lemmas.Int.{ints, fits_signed_from_abs}
use Rattle.std.proofs.lemmas.List.{length-map}
use Rattle.fx_tap_pointwise.specs.Mix.{pair_of}
use Rattle.fx_tap_pointwise.specs.Remix.{remix_parts}
use Rattle.fx_tap_pointwise.proofs.MixLaws.{mixed-next, made-at}
use Rattle.fx_tap_sums.proofs.Magnitudes.{added-bound, scaled-bound}
use Rattle.fx_tap_sums.proofs.SumLaws.{held, plain-product}
use Rattle.fx_tap_pointwise.proofs.remix.Mix.sum.Goals as goal
use mir.Syntax.{w128}

pub overflow_add-sum : goal.overflow_add-sum
overflow_add-sum c =
    let s : ℤ = to_z w128 c.contributions.sum-bits in
    let p : ℤ = c.contribution-item.result.parts in
    let x : ℤ = slice_index_or c.args.samples.now c.contribution-item.result.channel (pos 0) in
    let parts_fit : FitsSigned w64 p = search rules in
    let small : unsigned_abs p ≤ 2 ^ 63 = omega (arith, ints) in
    let sample_fits : FitsSigned w32 x = search rules in
    let sample : unsigned_abs x ≤ 2 ^ 31 = omega (arith, ints) in
    let f : c.from.result ≡ p = c.from.ensures ∙ search rules in
    let y : c.from-in-contributions.result ≡ x = c.from-in-contributions.ensures ∙ search rules ∙ c.sample_or_silence-sample.ensures in
    let product = scaled-bound p x _ _ small sample in
    let bound = c.contributions.invariant.small in
    let count = rw c.deref-contribution-items.ensures.value at c.contributions-test.true in
    rw (plain-product p x c.from.result c.from-in-contributions.result f y small sample)
    (fits_signed_from_abs w128 (s +ℤ (p *ℤ x)) (let maximum = added-bound s (p *ℤ x) _ _ bound product in omega (arith, maximum, count, c.self.invariant.0)))

pub contributions-preserved : goal.contributions-preserved
contributions-preserved c =
    let s : ℤ = to_z w128 c.contributions.sum-bits in
    let p : ℤ = c.contribution-item.result.parts in
    let x : ℤ = slice_index_or c.args.samples.now c.contribution-item.result.channel (pos 0) in
    let parts_fit : FitsSigned w64 p = search rules in
    let small : unsigned_abs p ≤ 2 ^ 63 = omega (arith, ints) in
    let sample_fits : FitsSigned w32 x = search rules in
    let sample : unsigned_abs x ≤ 2 ^ 31 = omega (arith, ints) in
    let f : c.from.result ≡ p = c.from.ensures ∙ search rules in
    let y : c.from-in-contributions.result ≡ x = c.from-in-contributions.ensures ∙ search rules ∙ c.sample_or_silence-sample.ensures in
    let product = scaled-bound p x _ _ small sample in
    let bound = c.contributions.invariant.small in
    let count = rw c.deref-contribution-items.ensures.value at c.contributions-test.true in
    let is = rw c.deref-contribution-items.ensures.value at c.contribution-item.is in
    let whole = rw (c.deref-contribution-items.ensures.value, ← c.self.view_is) at c.contributions.invariant.sum in
    let maximum = added-bound s (p *ℤ x) _ _ bound product in
    let kept : to_z w128 (of_z w128 (s +ℤ (p *ℤ x))) ≡ s +ℤ (p *ℤ x) = held (s +ℤ (p *ℤ x)) (omega (arith, maximum, count, c.self.invariant.0)) in
    let parts = made-at (length c.self.inside.contributions.items) c.self.inside.contributions.items c.contributions.contribution-index c.contribution-item.result c.self.invariant.1 count is in
    let items = c.self.inside.contributions.items in
    let size : length (map pair_of items) ≡ length items = length-map items pair_of in
    rw (plain-product p x c.from.result c.from-in-contributions.result f y small sample, kept, c.deref-contribution-items.ensures.value, ← c.self.view_is)
    record {
      sum = mixed-next (length (map pair_of items)) items c.contributions.contribution-index c.contribution-item.result c.contribution-item.result c.args.samples.now (s +ℤ (p *ℤ x)) s _ count is (parts ∙ ap (λ n. remix_parts n c.contribution-item.result.weight) (sym size)) refl whole;
      small = omega (arith, maximum);
    }
