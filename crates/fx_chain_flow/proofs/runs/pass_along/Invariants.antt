use Rattle.std.proofs.Common.{◌≡◌, ◌+◌, ◌≤◌, ℕ, [], ◌∷◌, false, length, take, true}
use Rattle.fx_chain_flow.specs.Order.{InOrder}
use Rattle.fx_chain_flow.specs.Parts.{AllDetermined}
use Rattle.fx_chain_flow.specs.Pipeline.{AllHeld}
use Rattle.fx_chain_flow.specs.Runs.{flow_of}
use Rattle.fx_chain_flow.proofs.runs.pass_along.Given as goal
use Rattle.fx_chain_flow.proofs.Pipelines.{CameTo}

abbrev pub invariant-stages : goal.invariant-stages
invariant-stages g l = record {
  came : CameTo g.S.Stage.acts l.place (take l.channels l.fn.places) (take l.width l.places) l.fn.stages l.stages;
  long : length l.places ≡ 16;
  frame : (1 ≤ l.width) × (l.width ≤ 16);
  kept : l.keeps ≡ true → l.width ≡ l.channels;
  determined : l.is_wet ≡ false → AllDetermined g.S.Stage.acts (take l.place l.stages);
  held : AllHeld g.S.Stage.acts l.stages;
  order : (left : ℕ) → InOrder g.S.Stage.acts g.S.StageCalls.handed g.S.PassesWhile.passed_while (flow_of g.S.Stage.acts l.channels l.fn.stages left) (take l.channels l.fn.places ∷ []) [] (take l.width l.places ∷ []) l.place (flow_of g.S.Stage.acts l.channels l.stages (left + 1));
}
