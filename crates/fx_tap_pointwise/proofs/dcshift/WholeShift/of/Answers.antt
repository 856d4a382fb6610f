use Rattle.std.proofs.Common.{rules, ◌≡◌, ◌∙◌, ap, arith, to_z, of_z, w32, w64, FitsSigned}
use Rattle.std.proofs.lemmas.Int.{ints, to_z-of_z}
use Rattle.std.proofs.lemmas.Grind.{common_steps}
use Rattle.fx_tap_pointwise.proofs.dcshift.WholeShift.of.Goals as goal

pub invariant_of-result : goal.invariant_of-result
invariant_of-result c =
    let wide : to_z w64 (of_z w64 c.args.steps) ≡ c.args.steps = search rules in
    let minimum = c.if-steps-from.false in
    let maximum = c.if-steps-from-2.false in
    let a = c.from.ensures in
    let b = c.from-else-steps-from.ensures in
    let fits : FitsSigned w32 c.args.steps = grind (arith, ints, common_steps) in
    let narrow : to_z w32 (of_z w32 c.args.steps) ≡ c.args.steps = search (rules, to_z-of_z) in
    let all : to_z w32 (of_z w32 (to_z w64 (of_z w64 c.args.steps))) ≡ c.args.steps = ap (λ z. to_z w32 (of_z w32 z)) wide ∙ narrow in
    (all ∙ c.requires, grind (arith, ints, common_steps), grind (arith, ints, common_steps))
