use Rattle.std.proofs.Common.{◌≡◌, drop, max}
use Rattle.std.specs.List.{list_all}
use Rattle.fx_cut.specs.Trim.{is_start, last_start}
use Rattle.fx_cut.proofs.trim.enough_of.Given as goal

abbrev pub invariant-positions : goal.invariant-positions
invariant-positions l = record {
  largest : max l.last (last_start (drop l.at-index l.positions)) ≡ last_start l.positions;
  starts : list_all is_start (drop l.at-index l.positions) ≡ list_all is_start l.positions;
}
