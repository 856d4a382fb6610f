use Rattle.std.proofs.Common.{to_z, w32, map}
use Rattle.fx_tap_sums.proofs.PairSums.{AddingFour}
use Rattle.fx_tap_sums.proofs.pairs.sixteen.Given as goal

abbrev pub invariant-pairs : goal.invariant-pairs
invariant-pairs l = record {
  first : AddingFour l.halves l.weights 0 l.pair (map (to_z w32) l.first);
  second : AddingFour l.halves l.weights 1 l.pair (map (to_z w32) l.second);
  third : AddingFour l.halves l.weights 8 l.pair (map (to_z w32) l.third);
  fourth : AddingFour l.halves l.weights 9 l.pair (map (to_z w32) l.fourth);
}
