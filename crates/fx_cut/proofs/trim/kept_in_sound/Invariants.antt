use Rattle.std.proofs.Common.{◌≡◌, ◌≤◌, ◌+◌, drop, false}
use Rattle.fx_cut.proofs.TrimCount.{kept_from}
use Rattle.fx_cut.proofs.trim.kept_in_sound.Given as goal

abbrev pub invariant-positions : goal.invariant-positions
invariant-positions l = record {
  counted : l.kept + kept_from l.is_kept l.frames l.last l.end (drop l.at-index l.positions) ≡ kept_from false l.frames 0 l.end l.positions;
  within : l.last ≤ l.end;
  bound : l.kept ≤ l.last;
}
