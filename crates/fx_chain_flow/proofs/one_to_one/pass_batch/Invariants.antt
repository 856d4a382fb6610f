use Rattle.std.proofs.Common.{◌≡◌, ◌+◌, ◌*◌, ◌≤◌, ℕ, [], length}
use Rattle.fx_frame_base.specs.Lists.{pieces}
use Rattle.fx_frame_base.specs.Holds.{held_sum, hold_sum, kinds}
use Rattle.fx_chain_flow.specs.Pipeline.{AllLined}
use Rattle.fx_chain_flow.specs.Order.{InOrder}
use Rattle.fx_chain_flow.specs.Runs.{flow_of}
use Rattle.fx_chain_flow.proofs.PieceLaws.{PieceTo}
use Rattle.fx_chain_flow.proofs.one_to_one.pass_batch.Given as goal

abbrev pub invariant-stages : goal.invariant-stages
invariant-stages g l = record {
  came_to : PieceTo g.S.Stage.acts l.place l.channels (pieces l.channels l.count l.input) l.channels (pieces l.channels l.count l.output) l.fn.stages l.stages;
  long : length l.output ≡ l.count * l.channels;
  order : (left : ℕ) → InOrder g.S.Stage.acts g.S.StageCalls.handed g.S.PassesWhile.passed_while (flow_of g.S.Stage.acts l.channels l.fn.stages left) (pieces l.channels l.count l.input) [] (pieces l.channels l.count l.output) l.place (flow_of g.S.Stage.acts l.channels l.stages (left + l.count));
  lined : AllLined g.S.Stage.acts l.stages;
  within : held_sum g.S.Stage.acts l.stages + l.count ≤ 1 + hold_sum (kinds g.S.Stage.acts l.stages);
}
