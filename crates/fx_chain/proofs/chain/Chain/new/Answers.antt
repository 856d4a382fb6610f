use Rattle.std.proofs.Common.{map}
use Rattle.std.proofs.lemmas.List.{length-map}
use Rattle.fx_chain.proofs.Chaining.{planned-is}
use Rattle.fx_plan_effects.specs.Effects.{act}
use Rattle.fx_plan.specs.Plans.{head_layout}
use Rattle.fx_chain_stages.proofs.Planned.{suit-fit}
use Rattle.fx_chain.proofs.chain.Chain.new.Goals as goal

pub stages_of-requires-clause-suit : goal.stages_of-requires-clause-suit
stages_of-requires-clause-suit c = rw (c.head-channels.ensures.value) (suit-fit (head_layout c.in_ok-plan.plan.head) (map act c.effects.result.now) c.effects.ensures.fit)

pub new-flow-requires-clause-planned : goal.new-flow-requires-clause-planned
new-flow-requires-clause-planned c =
    let delivered = c.effects.ensures in
    planned-is c.in_ok-stages.stages.items c.head-channels.result.channels (map act c.effects.result.now) c.in_ok-stages.ensures.recipes delivered.usable
    (rw (c.head-channels.ensures.value) (suit-fit (head_layout c.in_ok-plan.plan.head) (map act c.effects.result.now) delivered.fit)) (rw length-map (delivered.bound)) delivered.held delivered.short
