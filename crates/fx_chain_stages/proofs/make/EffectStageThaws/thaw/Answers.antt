-- What a plan says of an effect is what its stage asks for.
use Rattle.std.proofs.Common.{◌≡◌, List, ℕ, arith, length}
use Rattle.std.proofs.lemmas.Grind.{common_steps}
use Rattle.fx_plan_effects.specs.Registry.{OfDelay}
use Rattle.fx_plan_effects.specs.Meanings.{InPlace, recipe_at}
use Rattle.fx_frame.specs.Tapped.{TapState}
use Rattle.fx_tap_delays.specs.Delay.{every_delay}
use Rattle.fx_tap_delays.specs.DelayState.{delay_acts}
use Rattle.fx_chain_stages.specs.Stages.{effect_acts}
use Rattle.fx_chain_stages.specs.declared.registry.EffectStage.TheVariants as stages
use Rattle.fx_chain_stages.proofs.Making.{delay-made, mixes-are, pads-are}
use Rattle.fx_chain_stages.proofs.Planned.{delays-long}
use Rattle.fx_chain_stages.proofs.make.EffectStageThaws.thaw.Goals as goal

pub thaw-requires-in-Pad-clause-pads : goal.thaw-requires-in-Pad-clause-pads
thaw-requires-in-Pad-clause-pads c = rw (c.deref-in-Pad.ensures) (pads-are _ (rw (c.in-Pad.is) at c.requires.suits))

pub thaw-requires-in-Remix-clause-bound : goal.thaw-requires-in-Remix-clause-bound
thaw-requires-in-Remix-clause-bound c = rw (c.deref-in-Remix.ensures.value) ((mixes-are _ _ (rw (c.in-Remix.is) at c.requires.suits)).0)

pub thaw-requires-in-Remix-clause-named : goal.thaw-requires-in-Remix-clause-named
thaw-requires-in-Remix-clause-named c = rw (c.deref-in-Remix.ensures.value) ((mixes-are _ _ (rw (c.in-Remix.is) at c.requires.suits)).1)

pub returns-in-Remix-clause-thawed : goal.returns-in-Remix-clause-thawed
returns-in-Remix-clause-thawed c = grind (arith, common_steps) steps 60000000

pub returns-in-Delay-clause-made : goal.returns-in-Delay-clause-made
returns-in-Delay-clause-made c =
    let channels : ℕ = c.args.arguments.now.channels in
    let delays : List ℕ = c.in-Delay.delays.items in
    let long : length (every_delay channels delays) ≡ channels = delays-long channels delays (rw (c.in-Delay.is) at c.requires.suits) in
    let made : (s : TapState (List ℕ)) → delay_acts.recipe s ≡ every_delay channels delays → effect_acts.recipe (stages.Delay s) ≡ recipe_at (InPlace channels (OfDelay delays)) = λ s. delay-made channels delays s long in
    rw (c.in-Delay.is) (grind (arith, common_steps, made))
