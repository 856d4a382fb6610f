use Rattle.std.proofs.Common.{◌≡◌, ◌+◌, length, ◌≤◌}
use Rattle.fx_cut.specs.TrimWords.{order_faults}
use Rattle.fx_cut.proofs.trim.words.check_order.Given as goal

abbrev pub decreases-loop-rest : goal.decreases-loop-rest
decreases-loop-rest l = length l.rest

abbrev pub invariant-loop-rest : goal.invariant-loop-rest
invariant-loop-rest l = record {
  faults : order_faults l.number l.rest ≡ order_faults 3 l.positions;
  counted : l.number + length l.rest ≤ 3 + length l.positions;
}
