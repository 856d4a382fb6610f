use Rattle.std.proofs.Common.{◌≡◌, ◌≤◌, ◌+◌, drop, false}
use Rattle.fx_cut.proofs.TrimCount.{kept_in}
use Rattle.fx_cut.proofs.trim.kept_before.Given as goal

abbrev pub invariant-positions : goal.invariant-positions
invariant-positions l = record {
  counted : l.kept + kept_in l.is_kept l.last l.end (drop l.at-index l.positions) ≡ kept_in false 0 l.end l.positions;
  within : l.last ≤ l.end;
  bound : l.kept ≤ l.last;
}
