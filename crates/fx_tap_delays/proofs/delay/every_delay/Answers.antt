use Rattle.std.proofs.Common.{arith, ◌∙◌, ap}
use Rattle.std.proofs.lemmas.Grind.{common_steps}
use Rattle.fx_fixed.specs.Extents.{largest}
use Rattle.fx_tap_delays.proofs.MaxDelay.{largest-filled}
use Rattle.fx_tap_delays.proofs.delay.every_delay.Goals as goal

pub returns-clause-items : goal.returns-clause-items
returns-clause-items c = grind (arith, common_steps)

pub returns-clause-max_delay : goal.returns-clause-max_delay
returns-clause-max_delay c = ap largest (returns-clause-items c) ∙ largest-filled c.args.delays.now _
