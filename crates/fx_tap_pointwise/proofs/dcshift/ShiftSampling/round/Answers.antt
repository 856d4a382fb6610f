use Rattle.std.proofs.Common.{rules, ◌≡◌, ℤ, ◌+ℤ◌, ap, ◌∙◌, arith, to_z, of_z, w32, w64}
use Rattle.std.proofs.lemmas.Int.{ints}
use Rattle.fx_fixed.specs.Rounding.{clipping}
use Rattle.fx_tap_pointwise.proofs.Shifting.{added-steps}
use Rattle.fx_tap_pointwise.proofs.dcshift.ShiftSampling.round.Goals as goal

pub returns : goal.returns
returns c =
    let shift : ℤ = c.self.inside.shift in
    let inv = c.self.invariant in
    let x : to_z w32 (of_z w32 c.args.sample) ≡ c.args.sample = search rules in
    let f : to_z w64 (of_z w64 c.from.result) ≡ c.from.result = search rules in
    let s : to_z w64 (of_z w64 c.self.inside.steps) ≡ c.self.inside.steps = search rules in
    let t : to_z w64 (of_z w64 (to_z w64 (of_z w64 c.from.result) +ℤ to_z w64 (of_z w64 c.self.inside.steps))) ≡ c.args.sample +ℤ c.self.inside.steps =
    rw (f, s) (let bound = inv.0 in let from = c.from.ensures ∙ x in omega (arith, ints, bound, from)) in
    rw (← c.self.view_is)
    (c.clipped.ensures ∙ ap clipping (t ∙ ap (λ z. c.args.sample +ℤ z) inv.1 ∙ added-steps shift c.args.sample))
