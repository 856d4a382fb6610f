use Rattle.std.proofs.Common.{◌≡◌, ◌≤◌, ◌^◌, ◌∙◌, ap, arith, rules, unsigned_abs}
use Rattle.std.proofs.lemmas.Grind.{common_steps}
use Rattle.std.proofs.lemmas.Int.{to_z-of_z}
use Rattle.fx_fixed.specs.Rounding.{rounding}
use Rattle.fx_tap_pointwise.specs.Fractions.{fraction_sample}
use Rattle.fx_tap_sums.proofs.SmallSums.{plain-product-64}
use Rattle.fx_tap_pointwise.proofs.vol.FractionSampling.round.Goals as goal

pub returns : goal.returns
returns c =
    let f = c.self.inside in
    let weight : c.from.result ≡ f.weight = search (rules, to_z-of_z) in
    let sample : c.from-2.result ≡ c.args.sample = search (rules, to_z-of_z) in
    let small : unsigned_abs c.args.sample ≤ 2 ^ 31 = search rules in
    let bound : unsigned_abs f.weight ≤ 2 ^ 31 = omega (arith, c.self.invariant) in
    c.round.ensures ∙ ap (λ z. rounding z f.denominator) (plain-product-64 f.weight c.args.sample c.from.result c.from-2.result weight sample bound small) ∙ ap (λ r. fraction_sample r c.args.sample) c.self.view_is

-- The prover finds these too, but searches long.
pub round-requires : goal.round-requires
round-requires c = grind (arith, common_steps)
