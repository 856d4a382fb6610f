use Rattle.std.proofs.Common.{◌≡◌, ◌+◌, drop}
use Rattle.fx_frame_base.specs.Holds.{kinds, hold_sum, line_sum, capacity_sum}
use Rattle.fx_frame_base.proofs.holds.hold_by.Given as goal

abbrev pub invariant-stages : goal.invariant-stages
invariant-stages g l =
    record {
      sum : l.sum + hold_sum (kinds g.S.Stage.acts (drop l.stage-index l.stages)) ≡ hold_sum (kinds g.S.Stage.acts l.stages);
      lines : l.sum + line_sum (kinds g.S.Stage.acts (drop l.stage-index l.stages)) ≡ line_sum (kinds g.S.Stage.acts l.stages) + l.stage-index;
      capacities : capacity_sum g.S.Stage.acts (drop l.stage-index l.stages) + line_sum (kinds g.S.Stage.acts l.stages) ≡ line_sum (kinds g.S.Stage.acts (drop l.stage-index l.stages)) + capacity_sum g.S.Stage.acts l.stages;
    }
