use Rattle.std.proofs.Common.{◌-◌, ◌<◌, length, Some, sym, ap, ◌∙◌, arith}
use Rattle.std.proofs.lemmas.List.{length-map}
use Rattle.fx_plan_effects.specs.Effects.{name_text}
use Rattle.fx_plan.proofs.Holding.{stated_at}
use Rattle.fx_plan.proofs.accepted.Plan.effect_name.Goals as goal

pub returns : goal.returns
returns c =
    let effects = c.args.self.now.effects.items in
    let last = rw length-map at c.requires.last in
    let within : c.args.number - 1 < length effects = omega (arith, c.requires.first, last) in
    stated_at name_text effects (c.args.number - 1) c.index.result.now within c.index.ensures ∙ ap Some (sym c.name.ensures)
