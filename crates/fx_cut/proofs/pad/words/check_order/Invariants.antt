use Rattle.std.proofs.Common.{◌≡◌, ◌+◌, length, map, ◌≤◌}
use Rattle.fx_cut.specs.TrimWords.{order_faults}
use Rattle.fx_cut.specs.PadWords.{position_at}
use Rattle.fx_cut.proofs.pad.words.check_order.Given as goal

abbrev pub decreases-loop-rest : goal.decreases-loop-rest
decreases-loop-rest l = length l.rest

abbrev pub invariant-loop-rest : goal.invariant-loop-rest
invariant-loop-rest l = record {
  faults : order_faults l.number (map position_at l.rest) ≡ order_faults 3 (map position_at l.pads);
  counted : l.number + length l.rest ≤ 3 + length l.pads;
}
