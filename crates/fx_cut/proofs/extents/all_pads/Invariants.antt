use Rattle.std.proofs.Common.{◌≡◌, ◌+◌, ◌-◌, ◌^◌, ◌≤◌, drop, min, sum_by}
use Rattle.fx_cut.specs.PadExtents.{pad_length}
use Rattle.fx_cut.proofs.extents.all_pads.Given as goal

abbrev pub invariant-pads : goal.invariant-pads
invariant-pads l = record {
  value : min (l.total + sum_by pad_length (drop l.pad-index l.pads)) (2 ^ 64 - 1) ≡ min (sum_by pad_length l.pads) (2 ^ 64 - 1);
  bound : l.total ≤ 2 ^ 64 - 1;
}
