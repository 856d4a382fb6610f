use Rattle.std.proofs.Common.{◌≡◌, List, ℕ, arith, length}
use Rattle.std.proofs.lemmas.Grind.{common_steps}
use Rattle.fx_plan_effects.specs.Registry.{OfDelay}
use Rattle.fx_plan_effects.specs.Meanings.{InPlace, recipe_at}
use Rattle.fx_frame.specs.Tapped.{TapState}
use Rattle.fx_tap_delays.specs.Delay.{every_delay}
use Rattle.fx_tap_delays.specs.DelayState.{delay_acts}
use Rattle.fx_tap_delays.specs.EchoWords.{echo_value}
use Rattle.fx_frame_base.specs.Stage.{IsNew}
use Rattle.fx_chain_stages.specs.Stages.{effect_acts}
use Rattle.fx_chain_stages.specs.declared.registry.EffectStage.TheVariants as stages
use Rattle.fx_chain_stages.proofs.Making.{delay-new, echo-new, fade-new, mixes-are, pad-new, pads-are, trim-new}
use Rattle.fx_chain_stages.proofs.Planned.{delays-long}
use Rattle.fx_chain_stages.proofs.make.stage_of.Goals as goal

pub new-requires-in-Pad-clause-pads : goal.new-requires-in-Pad-clause-pads
new-requires-in-Pad-clause-pads c = rw (c.deref-in-Pad.ensures) (pads-are _ (rw (c.in-Pad.is) at c.requires.suits))

pub new-requires-in-Remix-clause-bound : goal.new-requires-in-Remix-clause-bound
new-requires-in-Remix-clause-bound c = rw (c.deref-in-Remix.ensures.value) ((mixes-are _ _ (rw (c.in-Remix.is) at c.requires.suits)).0)

pub new-requires-in-Remix-clause-named : goal.new-requires-in-Remix-clause-named
new-requires-in-Remix-clause-named c = rw (c.deref-in-Remix.ensures.value) ((mixes-are _ _ (rw (c.in-Remix.is) at c.requires.suits)).1)

pub returns-in-Trim : goal.returns-in-Trim
returns-in-Trim c = let new = trim-new c.args.channels c.in-Trim.positions.items in rw (c.in-Trim.is) (grind (arith, common_steps, new))

pub returns-in-Pad : goal.returns-in-Pad
returns-in-Pad c = let new = pad-new c.args.channels c.in-Pad.pads.items in rw (c.in-Pad.is) (grind (arith, common_steps, new))

pub returns-in-Echo : goal.returns-in-Echo
returns-in-Echo c = let new = echo-new c.args.channels (echo_value c.in-Echo.echo) in rw (c.in-Echo.is) (grind (arith, common_steps, new))

pub returns-in-Fade : goal.returns-in-Fade
returns-in-Fade c = let new = fade-new c.args.channels c.in-Fade.fade in rw (c.in-Fade.is) (grind (arith, common_steps, new))

pub returns-in-Delay : goal.returns-in-Delay
returns-in-Delay c =
    let delays : List ℕ = c.in-Delay.delays.items in
    let long : length (every_delay c.args.channels delays) ≡ c.args.channels = delays-long c.args.channels delays (rw (c.in-Delay.is) at c.requires.suits) in
    let new : (s : TapState (List ℕ)) → IsNew delay_acts (every_delay c.args.channels delays) s → IsNew effect_acts (recipe_at (InPlace c.args.channels (OfDelay delays))) (stages.Delay s) = λ s. delay-new c.args.channels delays s long in
    rw (c.in-Delay.is) (grind (arith, common_steps, new))

pub new-requires-in-Delay-clause-line : goal.new-requires-in-Delay-clause-line
new-requires-in-Delay-clause-line c = grind (arith, common_steps)

pub new-requires-in-Remix-clause-outs : goal.new-requires-in-Remix-clause-outs
new-requires-in-Remix-clause-outs c = grind (arith, common_steps)

pub returns-in-Echos : goal.returns-in-Echos
returns-in-Echos c = grind (arith, common_steps)

pub returns-in-Fir : goal.returns-in-Fir
returns-in-Fir c = grind (arith, common_steps)

pub returns-in-Remix : goal.returns-in-Remix
returns-in-Remix c = grind (arith, common_steps)
