use Rattle.std.proofs.Common.{rules, ◌≡◌, ◌^◌, ◌∷◌, map, sym}
use Rattle.std.proofs.lemmas.Bool.{and_parts}
use Rattle.std.proofs.lemmas.List.Elements.{All-head, All-tail}
use Rattle.fx_plan_effects.specs.Effects.{Usable, act, channels_after}
use Rattle.fx_chain_stages.specs.Made.{all_suit, suits}
use Rattle.fx_chain_stages.proofs.Making.{AllNew-push, hold-tail, made-more}
use Rattle.fx_chain_stages.proofs.Planned.{planned}
use Rattle.fx_chain_stages.proofs.make.stages_of.Goals as goal

pub loop-effect-preserved : goal.loop-effect-preserved
loop-effect-preserved c =
    let i = c.loop-effect.invariant in
    let here = act c.in-Some.effect.now in
    let later = map act c.in-Some.more.now in
    let is : c.loop-effect.rest.now ≡ c.in-Some.effect.now ∷ c.in-Some.more.now = search rules in
    let parts = and_parts (suits c.loop-effect.channels here) (all_suit (channels_after c.loop-effect.channels here) later) (rw (is) at i.suit) in
    let usable = All-head Usable here later (rw (is) at i.usable) in
    let stage = c.in_ok-stage_of.ensures in
    let after = c.channels_after-channels.ensures in
    let pushed = c.in_ok-push.ensures.items in
    record {
      some = rw (after) ((planned c.loop-effect.channels here).some usable i.some);
      bound = rw (after) ((planned c.loop-effect.channels here).bound usable i.bound);
      usable = All-tail Usable here later (rw (is) at i.usable);
      suit = rw (after) parts.1;
      hold = (hold-tail here later (2 ^ 28) (rw (is) at i.hold)).1;
      new = rw (pushed) (AllNew-push c.loop-effect.stages.items c.in_ok-stage_of.field-0 i.new (rw (sym stage.recipe) at stage));
      made = rw (pushed, after) (made-more c.loop-effect.stages.items c.in_ok-stage_of.field-0 c.loop-effect.channels here later _ stage.recipe (rw (is) at i.made));
    }
