use Rattle.std.proofs.Common.{◌≤◌, ◌-◌, to_z, w32, map}
use Rattle.fx_tap_sums.proofs.PartSums.{AddingParts, Carried}
use Rattle.fx_tap_sums.proofs.pairs.sixteen_of_parts.Given as goal

abbrev pub invariant-intervals : goal.invariant-intervals
invariant-intervals g l = record {
  start : l.start ≤ l.pairs;
  first : Carried g.row.SPLIT l.halves l.weights 0 l.start (map (to_z w32) l.high_first) (map (to_z w32) l.low_first);
  second : Carried g.row.SPLIT l.halves l.weights 1 l.start (map (to_z w32) l.high_second) (map (to_z w32) l.low_second);
  third : Carried g.row.SPLIT l.halves l.weights 8 l.start (map (to_z w32) l.high_third) (map (to_z w32) l.low_third);
  fourth : Carried g.row.SPLIT l.halves l.weights 9 l.start (map (to_z w32) l.high_fourth) (map (to_z w32) l.low_fourth);
}

abbrev pub decreases-intervals : goal.decreases-intervals
decreases-intervals g l = l.pairs - l.start

abbrev pub invariant-pairs : goal.invariant-pairs
invariant-pairs g l = record {
  first : AddingParts g.row.SPLIT l.halves l.weights l.low 0 l.start l.pair (map (to_z w32) l.high_first) (map (to_z w32) l.low_first);
  second : AddingParts g.row.SPLIT l.halves l.weights l.low 1 l.start l.pair (map (to_z w32) l.high_second) (map (to_z w32) l.low_second);
  third : AddingParts g.row.SPLIT l.halves l.weights l.low 8 l.start l.pair (map (to_z w32) l.high_third) (map (to_z w32) l.low_third);
  fourth : AddingParts g.row.SPLIT l.halves l.weights l.low 9 l.start l.pair (map (to_z w32) l.high_fourth) (map (to_z w32) l.low_fourth);
}
