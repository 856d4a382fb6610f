use Rattle.std.proofs.Common.{◌≤◌, map, refl, sym, ◌∙◌, arith}
use Rattle.std.proofs.lemmas.List.{length-map}
use Rattle.std.proofs.lemmas.Result.{err_from_is_err_and}
use Rattle.fx_chain.proofs.Chaining.{planned-is}
use Rattle.fx_chain.proofs.Thawing.{IsChain-made, chain-same, channels-planned, made-planned, planned-made}
use Rattle.fx_plan_effects.specs.Effects.{act}
use Rattle.fx_plan.specs.Plans.{head_layout}
use Rattle.fx_plan.specs.Planning.{planning}
use Rattle.fx_chain_stages.proofs.Planned.{suit-fit}
use Rattle.fx_chain_stages.proofs.Thawing.{fits-with}
use Rattle.fx_chain.proofs.chain.Chain.thaw.Goals as goal

pub thaw-requires-clause-fits : goal.thaw-requires-clause-fits
thaw-requires-clause-fits c =
    let delivered = c.effects.ensures in
    let channels = c.head-channels.result.channels in
    let acts = map act c.effects.result.now in
    let some : 1 ≤ c.head-channels.result.channels = omega (arith, c.head-channels.ensures.some) in
    rw (c.deref.ensures.value)
    (fits-with c.in-Ok-arguments_of.arguments.items channels acts c.in-Ok-arguments_of.ensures some c.head-channels.ensures.maximum delivered.usable
    (rw (c.head-channels.ensures.value) (suit-fit (head_layout c.in-Ok.plan.head) acts delivered.fit)) delivered.held)

pub thaw-requires-clause-planned : goal.thaw-requires-clause-planned
thaw-requires-clause-planned c = λ stages made.
    let delivered = c.effects.ensures in
    let channels = c.head-channels.result.channels in
    let acts = map act c.effects.result.now in
    planned-is stages channels acts
    (planned-made c.in-Ok-arguments_of.arguments.items channels acts c.in-Ok-arguments_of.ensures stages (rw (c.deref.ensures.value) at made))
    delivered.usable (rw (c.head-channels.ensures.value) (suit-fit (head_layout c.in-Ok.plan.head) acts delivered.fit)) (rw length-map (delivered.bound)) delivered.held delivered.short

pub invariant_of-result : goal.invariant_of-result
invariant_of-result c =
    let delivered = c.effects.ensures in
    let made = rw (c.deref.ensures.value) at c.in_ok-flow.ensures.made in
    IsChain-made c.in-Ok-arguments_of.arguments.items c.head-channels.result.channels (map act c.effects.result.now) c.in-Ok-arguments_of.ensures
    (planning c.in-Ok.plan) (rw (c.head-channels.ensures.value) refl) delivered.value c.in_ok-flow.flow made.0 made.1 (rw length-map (delivered.bound)) delivered.short

pub returns-in_err-flow-clause-thawed : goal.returns-in_err-flow-clause-thawed
returns-in_err-flow-clause-thawed c = let fault = err_from_is_err_and c.from_residual.result c.from_residual.ensures.1 in rw (fault.1, fault.2) (λ chain sound plan snapshot.
    let items = c.in-Ok-arguments_of.arguments.items in
    let channels = c.head-channels.result.channels in
    let acts = map act c.effects.result.now in
    let same = plan ∙ sym c.in-Ok.ensures in
    let made = made-planned items channels acts c.in-Ok-arguments_of.ensures (planning c.in-Ok.plan) (rw (c.head-channels.ensures.value) refl) c.effects.ensures.value chain sound.chain same in
    let channels-are = channels-planned items channels acts c.in-Ok-arguments_of.ensures (planning c.in-Ok.plan) (rw (c.head-channels.ensures.value) refl) c.effects.ensures.value chain sound.chain same in
    c.in_err-flow.ensures.thawed chain.flow sound.flow sound.stages (rw (c.deref.ensures.value) made) channels-are (rw (c.deref-2.ensures.value, c.deref-3.ensures.value) snapshot.flow))

pub returns-clause-thawed : goal.returns-clause-thawed
returns-clause-thawed c = λ chain sound plan snapshot.
    let items = c.in-Ok-arguments_of.arguments.items in
    let channels = c.head-channels.result.channels in
    let acts = map act c.effects.result.now in
    let same = plan ∙ sym c.in-Ok.ensures in
    let made = made-planned items channels acts c.in-Ok-arguments_of.ensures (planning c.in-Ok.plan) (rw (c.head-channels.ensures.value) refl) c.effects.ensures.value chain sound.chain same in
    let channels-are = channels-planned items channels acts c.in-Ok-arguments_of.ensures (planning c.in-Ok.plan) (rw (c.head-channels.ensures.value) refl) c.effects.ensures.value chain sound.chain same in
    chain-same chain (planning c.in-Ok.plan) c.in_ok-flow.flow same
    (c.in_ok-flow.ensures.thawed chain.flow sound.flow sound.stages (rw (c.deref.ensures.value) made) channels-are (rw (c.deref-2.ensures.value, c.deref-3.ensures.value) snapshot.flow))
