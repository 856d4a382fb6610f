use Rattle.std.proofs.Common.{rules, ◌≡◌, ◌∷◌, map}
use Rattle.fx_plan_effects.specs.Effects.{act}
use Rattle.fx_chain_stages.proofs.Thawing.{placed-more}
use Rattle.fx_chain_stages.proofs.thaw.arguments_of.Goals as goal

pub loop-first-preserved : goal.loop-first-preserved
loop-first-preserved c =
    let is : c.loop-first.rest.now ≡ c.in-Some.first.now ∷ c.in-Some.more.now = search rules in
    let so = c.loop-first.invariant in
    rw (c.in_ok-push.ensures.items, c.channels_after-channels.ensures)
    (placed-more c.loop-first.arguments.items _ c.loop-first.channels (act c.in-Some.first.now) (map act c.in-Some.more.now) _ (search rules) (rw (is) at so))
