use Rattle.std.proofs.Common.{◌≡◌, ◌+◌, ◌<◌, ◌≤◌, [], length}
use Rattle.fx_frame_base.specs.Holds.{kinds}
use Rattle.fx_frame_base.specs.Pipeline.{outputs_of}
use Rattle.fx_frame_base.specs.Lists.{pieces}
use Rattle.fx_chain_flow.specs.Feed.{FlowTookWithinSpace, GaveLast}
use Rattle.fx_chain_flow.specs.Order.{InOrder}
use Rattle.fx_chain_flow.proofs.Feeding.{Turned, left_to_do}
use Rattle.fx_chain_flow.proofs.feed.feed_by_steps.Given as goal

abbrev pub invariant-turns : goal.invariant-turns
invariant-turns g l = record {
  turned : Turned g.S.Stage.acts l.fn.flow l.input l.fn.output l.flow l.output l.read l.written l.taken l.given;
  order : InOrder g.S.Stage.acts g.S.StageCalls.handed g.S.PassesWhile.passed_while l.fn.flow (pieces l.fn.flow.channels l.taken l.input) (pieces (outputs_of l.fn.flow.channels (kinds g.S.Stage.acts l.fn.flow.stages)) l.given l.output) [] 0 l.flow;
  free : FlowTookWithinSpace g.S.Stage.acts l.fn.flow l.taken (length l.fn.output);
  unchanged : length l.fn.output < outputs_of l.fn.flow.channels (kinds g.S.Stage.acts l.fn.flow.stages) → l.flow ≡ l.fn.flow;
  full : 1 ≤ l.given → length l.fn.output < l.written + outputs_of l.fn.flow.channels (kinds g.S.Stage.acts l.fn.flow.stages)
      → GaveLast g.S.Stage.acts l.fn.flow (pieces l.fn.flow.channels l.taken l.input) (pieces (outputs_of l.fn.flow.channels (kinds g.S.Stage.acts l.fn.flow.stages)) l.given l.output) l.flow;
}

abbrev pub decreases-turns : goal.decreases-turns
decreases-turns g l = left_to_do g.S.Stage.acts l.fn.flow l.input l.fn.output l.flow l.read
