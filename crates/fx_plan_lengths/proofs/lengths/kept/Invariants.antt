use Rattle.std.proofs.Common.{◌≡◌, ◌≤◌, ◌+◌, drop, false}
use Rattle.fx_cut.proofs.TrimCount.{kept_from}
use Rattle.fx_plan_lengths.proofs.lengths.kept.Given as goal

abbrev pub invariant-loop-position : goal.invariant-loop-position
invariant-loop-position l = record {
  counted : l.kept + kept_from l.is_keeping l.frames l.from l.frames (drop l.position-index l.positions) ≡ kept_from false l.frames 0 l.frames l.positions;
  within : l.from ≤ l.frames;
  bound : l.kept ≤ l.from;
}
