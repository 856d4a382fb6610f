use Rattle.std.proofs.Common.{◌≡◌, ◌≤◌, ◌+◌, ◌*◌, [], drop, ℕ}
use Rattle.fx_frame_base.specs.Holds.{kinds}
use Rattle.fx_chain_flow.specs.Parts.{AllDetermined}
use Rattle.fx_frame_base.specs.Lists.{pieces}
use Rattle.fx_chain_flow.specs.Order.{InOrder}
use Rattle.fx_chain_flow.specs.Pipeline.{AllHeld}
use Rattle.fx_chain_flow.specs.Runs.{MayRun, flow_of}
use Rattle.fx_chain_flow.proofs.Running.{Running}
use Rattle.fx_chain_flow.proofs.runs.run_frames.Given as goal

abbrev pub invariant-frames : goal.invariant-frames
invariant-frames g l = record {
  runs : (left : ℕ) → MayRun g.S.Stage.acts l.widths.inputs l.count l.fn.stages left → Running g.S.Stage.acts g.met.S.Stage.rises l.widths.inputs l.widths.outputs l.count left l.fn.stages l.input l.fn.output l.stages l.output (l.taken * l.widths.inputs) (l.given * l.widths.outputs) l.taken l.given;
  order : (left : ℕ) → InOrder g.S.Stage.acts g.S.StageCalls.handed g.S.PassesWhile.passed_while (flow_of g.S.Stage.acts l.widths.inputs l.fn.stages left) (pieces l.widths.inputs l.taken l.input) (pieces l.widths.outputs l.given l.output) [] 0 (flow_of g.S.Stage.acts l.widths.inputs l.stages (left + l.taken));
  held : AllHeld g.S.Stage.acts l.stages;
  determined : AllDetermined g.S.Stage.acts l.stages;
  same : kinds g.S.Stage.acts l.stages ≡ kinds g.S.Stage.acts l.fn.stages;
  fewer : l.given ≤ l.taken;
  small : l.given ≤ l.given * l.widths.outputs;
  rest_unchanged : drop (l.given * l.widths.outputs) l.output ≡ drop (l.given * l.widths.outputs) l.fn.output;
}
