use Rattle.std.proofs.Common.{◌≡◌, ◌≤◌, ◌+◌, drop}
use Rattle.fx_frame_base.specs.Holds.{kinds, hold_sum, held_sum}
use Rattle.fx_frame_base.proofs.holds.held_by.Given as goal

abbrev pub invariant-stages : goal.invariant-stages
invariant-stages g l =
    record {
      sum : l.sum + held_sum g.S.Stage.acts (drop l.stage-index l.stages) ≡ held_sum g.S.Stage.acts l.stages;
      within : l.sum + hold_sum (kinds g.S.Stage.acts (drop l.stage-index l.stages)) ≤ hold_sum (kinds g.S.Stage.acts l.stages);
    }
