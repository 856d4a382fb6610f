use Rattle.std.proofs.Common.{◌≡◌, ◌≤◌, List, map, true, subst}
use Rattle.std.specs.List.{All}
use Rattle.fx_plan_effects.specs.Effects.{Act, Usable, act}
use Rattle.fx_plan.specs.Plans.{head_layout}
use Rattle.fx_plan.specs.Planning.{planning}
use Rattle.fx_chain_stages.specs.Made.{all_suit}
use Rattle.fx_chain_stages.proofs.Planned.{suit-fit}
use Rattle.fx_chain.proofs.Chaining.{outputs-range}
use Rattle.fx_chain.proofs.chain.Chain.outputs.Goals as goal

pub returns-clause-range : goal.returns-clause-range
returns-clause-range c =
    let plan = planning c.self.inside.plan in
    let acts : List Act = plan.acts in
    let delivered = c.effects-effects.ensures in
    let usable : All Usable acts = subst (λ (l : List Act). All Usable l) delivered.value delivered.usable in
    let fit = subst (λ (l : List Act). all_suit plan.head.channels l ≡ true) delivered.value (suit-fit (head_layout plan.head) (map act c.effects-effects.result.now) delivered.fit) in
    let some : 1 ≤ plan.head.channels = delivered.layout.some in
    let bound : plan.head.channels ≤ 16 = delivered.layout.maximum in
    rw (c.out_channels.ensures, c.self.invariant.channels) (outputs-range (record { plan = plan; flow = c.self.inside.flow }) c.self.invariant usable fit some bound)
