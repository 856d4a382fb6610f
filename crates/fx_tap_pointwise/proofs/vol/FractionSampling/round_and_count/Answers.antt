use Rattle.std.proofs.Common.{◌≡◌, ◌≤◌, ◌+◌, ◌^◌, ◌∙◌, ap, arith, rules, to_z, of_z, w32, unsigned_abs}
use Rattle.std.proofs.lemmas.Grind.{common_steps}
use Rattle.std.proofs.lemmas.Int.{to_z-of_z}
use Rattle.fx_fixed.specs.Rounding.{clip_count, rounding}
use Rattle.fx_tap_pointwise.specs.Fractions.{fraction_sample}
use Rattle.fx_tap_sums.proofs.SmallSums.{plain-product-64}
use Rattle.fx_tap_pointwise.proofs.vol.FractionSampling.round_and_count.Goals as goal

pub returns : goal.returns
returns c =
    let f = c.self.inside in
    let weight : c.from.result ≡ f.weight = search (rules, to_z-of_z) in
    let sample : c.from-2.result ≡ c.args.sample = search (rules, to_z-of_z) in
    let small : unsigned_abs c.args.sample ≤ 2 ^ 31 = search rules in
    let bound : unsigned_abs f.weight ≤ 2 ^ 31 = omega (arith, c.self.invariant) in
    let product = plain-product-64 f.weight c.args.sample c.from.result c.from-2.result weight sample bound small in
    let rounded = ap (λ z. rounding z f.denominator) product ∙ ap (λ r. fraction_sample r c.args.sample) c.self.view_is in
    let back : to_z w32 (of_z w32 c.round_and_count.result) ≡ c.round_and_count.result = search rules in
    record {
      sample = back ∙ c.round_and_count.ensures.sample ∙ ap (λ r. r.0) rounded;
      clips = c.round_and_count.ensures.clips ∙ ap (λ r. c.args.clips.now + clip_count r) rounded;
    }

-- The prover finds these too, but searches long.
pub round_and_count-requires : goal.round_and_count-requires
round_and_count-requires c = grind (arith, common_steps)
