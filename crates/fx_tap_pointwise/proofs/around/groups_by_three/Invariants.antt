use Rattle.std.proofs.Common.{◌≡◌, ◌≤◌, ◌-◌, ◌*◌, drop}
use Rattle.fx_tap_pointwise.specs.Around.{IsMadeByThree}
use Rattle.fx_tap_pointwise.proofs.around.groups_by_three.Given as goal

abbrev pub invariant-groups : goal.invariant-groups
invariant-groups g l = record {
  within : l.done ≤ l.count;
  made : IsMadeByThree (g.A.Mapping.mapped l.first) (g.B.Mapping.mapped l.middle) (g.C.Mapping.mapped l.last) l.widths.inputs l.widths.outputs l.done l.input l.output l.first_clips l.middle_clips l.last_clips;
  rest_unchanged : drop (l.done * l.widths.outputs) l.output ≡ drop (l.done * l.widths.outputs) l.fn.output;
}

abbrev pub decreases-groups : goal.decreases-groups
decreases-groups g l = l.count - l.done
