use Rattle.std.proofs.Common.{rules, ◌≡◌, ◌+ℤ◌, ◌∙◌, ap, ℕ, ℤ, map, pos, slice_index_or, sym, to_z, of_z, w32, w64}
use Rattle.fx_fixed.specs.Rounding.{rounding}
use Rattle.fx_tap_sums.specs.Weights.{Weights}
use Rattle.fx_tap_pointwise.specs.Mix.{Means, Reduces, Scales, pair_of}
use Rattle.fx_tap_pointwise.specs.Vol.{scaled_sample}
use Rattle.fx_tap_sums.specs.Products.{sum_of_products}
use Rattle.fx_tap_pointwise.proofs.MixLaws.{gathered, mean-sample, scaled-mix, small-mix}
use Rattle.fx_tap_pointwise.proofs.remix.Mix.sample.Goals as goal

pub returns-in-Mean : goal.returns-in-Mean
returns-in-Mean c =
    let cs = c.self.inside.contributions.items in
    let first : ℕ = c.in-Mean.first in
    let second : ℕ = c.in-Mean.second in
    let means : Means cs first second = rw c.in-Mean.is at c.self.invariant.2 in
    let sum : to_z w64 (of_z w64 (to_z w64 (of_z w64 c.from.result) +ℤ to_z w64 (of_z w64 c.from-in-Mean.result))) ≡ slice_index_or c.args.samples.now first (pos 0) +ℤ slice_index_or c.args.samples.now second (pos 0) = search rules in
    let made = rw sum at c.halved.ensures in
    let back : to_z w32 (of_z w32 c.halved.result) ≡ c.halved.result = search rules in
    rw (back, ← c.self.view_is) (sym made ∙ sym (mean-sample cs first second c.args.samples.now means))

pub returns-in-Scaled : goal.returns-in-Scaled
returns-in-Scaled c =
    let cs = c.self.inside.contributions.items in
    let channel : ℕ = c.in-Scaled.channel in
    let gain : ℤ = c.in-Scaled.scale in
    let scales : Scales cs channel gain = rw c.in-Scaled.is at c.self.invariant.2 in
    let sample : to_z w32 (of_z w32 c.sample_or_silence-in-Scaled.result) ≡ slice_index_or c.args.samples.now channel (pos 0) = search rules in
    rw (← c.self.view_is) (c.round.ensures ∙ ap (λ x. scaled_sample gain x) sample ∙ sym (scaled-mix cs channel gain c.args.samples.now scales))

pub returns-in-Small : goal.returns-in-Small
returns-in-Small c =
    let cs = c.self.inside.contributions.items in
    let w : Weights = record { weights = c.small.inside.weights.items; denominator = c.small.inside.denominator } in
    let delivered : Reduces cs c.in-Small.small = rw c.in-Small.is at c.self.invariant.2 in
    let reduces : Reduces cs w = rw (← c.small.view_is) at delivered in
    let back : to_z w64 (of_z w64 c.small_sum.result) ≡ c.small_sum.result = search rules in
    let made : c.round-in-Small.result ≡ rounding c.small_sum.result w.denominator = rw back at c.round-in-Small.ensures in
    let sum : c.small_sum.result ≡ sum_of_products (gathered (map pair_of cs) c.args.samples.now) w.weights = rw (← c.self.view_is, c.deref.ensures.value) at c.small_sum.ensures.sum in
    rw (← c.self.view_is) (made ∙ small-mix cs c.args.samples.now w c.small_sum.result reduces.some c.self.invariant.1 reduces.sums sum)
