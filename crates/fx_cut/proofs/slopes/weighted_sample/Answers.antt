use Rattle.std.proofs.Common.{◌≡◌, ◌≤◌, ◌^◌, ◌*ℤ◌, pos, ◌∙◌, rules, arith, to_z, of_z, w32, FitsSigned, unsigned_abs}
use Rattle.std.proofs.lemmas.Grind.{common_steps}
use Rattle.std.specs.Int.{w128}
use Rattle.std.proofs.lemmas.Int.{to_z-of_z, fits_signed_mul, ints}
use Rattle.fx_cut.proofs.Weighing.{is-unclipped, small-product}
use Rattle.fx_fixed.proofs.AtMostWhole.{not-clipped}
use Rattle.fx_cut.proofs.slopes.weighted_sample.Goals as goal

pub returns-in_default : goal.returns-in_default
returns-in_default c =
    let f : to_z w32 (of_z w32 c.args.sample) ≡ c.args.sample = to_z-of_z w32 c.args.sample c.ranges.sample in
    let r : c.from.result ≡ c.args.sample = c.from.ensures ∙ f in
    let wide : to_z w128 (of_z w128 c.from.result) ≡ c.from.result = search rules in
    let o : to_z w128 c.args.over ≡ pos c.args.over = search rules in
    let u : to_z w128 c.args.under ≡ pos c.args.under = search rules in
    let m : unsigned_abs c.args.sample ≤ 2 ^ 31 = omega (arith, ints) in
    let h : c.args.over ≤ 2 ^ 80 = omega arith in
    let fits : FitsSigned w128 (c.args.sample *ℤ pos c.args.over) = fits_signed_mul w128 c.args.sample (pos c.args.over) (2 ^ 31) (2 ^ 80) m h (omega arith) in
    let k = rw (wide, r, o, u, to_z-of_z w128 (c.args.sample *ℤ pos c.args.over) fits) at c.round_clip-rounded.ensures in
    let same : to_z w32 (of_z w32 c.round_clip-rounded.result.0) ≡ c.round_clip-rounded.result.0 = search rules in
    rw same (is-unclipped (c.args.over, c.args.under) c.args.sample c.round_clip-rounded.result.0 c.round_clip-rounded.result.1 k c.requires.weight.1 c.requires.weight.0 c.ranges.sample)

pub round_within-requires-clause-small : goal.round_within-requires-clause-small
round_within-requires-clause-small c =
    let prepared = rw c.in-Some.is at c.requires.prepared in
    let same : c.from-2.result ≡ c.args.sample = c.from-2.ensures ∙ to_z-of_z w32 c.args.sample c.ranges.sample in
    let minimum = c.requires.weight.0 in
    let product = small-product c.args.sample c.from-2.result c.args.over same c.ranges.sample (omega (arith, prepared.1)) in
    rw product.0 product.1

pub round_within-requires-clause-within : goal.round_within-requires-clause-within
round_within-requires-clause-within c =
    let prepared = rw c.in-Some.is at c.requires.prepared in
    let same : c.from-2.result ≡ c.args.sample = c.from-2.ensures ∙ to_z-of_z w32 c.args.sample c.ranges.sample in
    let minimum = c.requires.weight.0 in
    let product = small-product c.args.sample c.from-2.result c.args.over same c.ranges.sample (omega (arith, prepared.1)) in
    rw (product.0, prepared.0) (not-clipped c.args.sample c.args.over c.args.under c.requires.weight.1 c.requires.weight.0 c.ranges.sample)

pub returns : goal.returns
returns c =
    let prepared = rw c.in-Some.is at c.requires.prepared in
    let same : c.from-2.result ≡ c.args.sample = c.from-2.ensures ∙ to_z-of_z w32 c.args.sample c.ranges.sample in
    let minimum = c.requires.weight.0 in
    let product = small-product c.args.sample c.from-2.result c.args.over same c.ranges.sample (omega (arith, prepared.1)) in
    let k = rw (product.0, prepared.0) at c.round_within.ensures in
    let out : to_z w32 (of_z w32 c.round_within.result) ≡ c.round_within.result = search rules in
    rw out k

pub overflow_mul-from : goal.overflow_mul-from
overflow_mul-from c = grind (arith, common_steps)

pub round_clip-rounded-requires-clause-low : goal.round_clip-rounded-requires-clause-low
round_clip-rounded-requires-clause-low c = grind (arith, common_steps)

pub round_clip-rounded-requires-clause-high : goal.round_clip-rounded-requires-clause-high
round_clip-rounded-requires-clause-high c = grind (arith, common_steps)

pub overflow_mul-from-2 : goal.overflow_mul-from-2
overflow_mul-from-2 c = grind (arith, common_steps)
