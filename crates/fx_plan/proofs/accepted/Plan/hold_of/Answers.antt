use Rattle.std.proofs.Common.{◌≡◌, ◌+◌, ◌-◌, ◌<◌, length, Some, sym, ap, ◌∙◌, arith}
use Rattle.std.proofs.lemmas.List.{length-map}
use Rattle.fx_plan_effects.specs.Effects.{act}
use Rattle.fx_plan_effects.specs.Meanings.{line_of_act}
use Rattle.fx_plan_effects.specs.Bounds.{hold_of_act}
use Rattle.fx_plan.proofs.Holding.{hold_part, stated_at}
use Rattle.fx_plan.proofs.accepted.Plan.hold_of.Goals as goal

pub overflow_add-result : goal.overflow_add-result
overflow_add-result c =
    let effects = c.args.self.now.effects.items in
    let last = rw length-map at c.requires.last in
    let within : c.args.number - 1 < length effects = omega (arith, c.requires.first, last) in
    let part = hold_part effects (c.args.number - 1) c.index.result.now within c.index.ensures in
    omega (arith, part, c.args.self.now.held, c.line.ensures)

pub returns : goal.returns
returns c =
    let effects = c.args.self.now.effects.items in
    let e = c.index.result.now in
    let last = rw length-map at c.requires.last in
    let within : c.args.number - 1 < length effects = omega (arith, c.requires.first, last) in
    let part = hold_part effects (c.args.number - 1) e within c.index.ensures in
    let line : c.line.result ≡ line_of_act (act e) = omega (arith, part, c.args.self.now.held, c.line.ensures) in
    stated_at hold_of_act effects (c.args.number - 1) e within c.index.ensures ∙ ap (λ n. Some (n + 1)) (sym line)
