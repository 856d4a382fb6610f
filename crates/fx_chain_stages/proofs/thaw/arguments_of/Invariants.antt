use Rattle.std.proofs.Common.{◌≡◌, ◌++◌, length, map}
use Rattle.fx_plan_effects.specs.Effects.{act}
use Rattle.fx_chain_stages.specs.Made.{placed_in}
use Rattle.fx_chain_stages.specs.Thawed.{placing}
use Rattle.fx_chain_stages.proofs.thaw.arguments_of.Given as goal

abbrev pub decreases-loop-first : goal.decreases-loop-first
decreases-loop-first l = length l.rest

abbrev pub invariant-loop-first : goal.invariant-loop-first
invariant-loop-first l = map placing l.arguments.items ++ placed_in l.channels (map act l.rest) ≡ placed_in l.fn.channels (map act l.effects)
