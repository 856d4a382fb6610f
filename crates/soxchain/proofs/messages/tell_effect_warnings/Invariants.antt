use Rattle.std.proofs.Common.{◌-◌, ◌≤◌}
use Rattle.fx_plan.specs.CommandLines.{effects_in}
use Rattle.soxchain.specs.Messages.{effect_warnings}
use Rattle.soxchain.specs.Saying.{Says}
use Rattle.soxchain.proofs.messages.tell_effect_warnings.Given as goal

abbrev pub invariant-loop-place : goal.invariant-loop-place
invariant-loop-place g l = record {
  within : l.place ≤ l.count;
  delivered : Says g.M.ByteOut.writes l.fn.message_writer l.message_writer (effect_warnings (effects_in l.line) l.clips l.place);
}

abbrev pub decreases-loop-place : goal.decreases-loop-place
decreases-loop-place g l = l.count - l.place
