use Rattle.std.proofs.Common.{◌≤◌, drop}
use Rattle.fx_frame_base.specs.Feed.{IsNoneDue}
use Rattle.fx_chain_flow.specs.Runs.{AllAhead, AllOneToOne}
use Rattle.fx_chain_flow.specs.StageCall.{At}
use Rattle.fx_chain_flow.proofs.runs.min_forecast.Given as goal

abbrev pub invariant-stages : goal.invariant-stages
invariant-stages g l = record {
  bound : l.ahead ≤ l.maximum;
  ahead : AllAhead g.S.Stage.acts l.ahead (drop l.place l.stages);
  one_to_one : AllOneToOne g.S.Stage.acts l.one_to_one (drop l.place l.stages);
  none_due : 1 ≤ l.none_due → At (IsNoneDue g.S.Stage.acts l.none_due) l.place l.stages;
}
