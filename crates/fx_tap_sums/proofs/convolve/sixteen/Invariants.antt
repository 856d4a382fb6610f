use Rattle.std.proofs.Common.{to_z, w64, map}
use Rattle.fx_tap_sums.proofs.Convolving.{AddingLanes}
use Rattle.fx_tap_sums.proofs.convolve.sixteen.Given as goal

abbrev pub invariant-taps : goal.invariant-taps
invariant-taps l = record {
  first : AddingLanes l.window l.weights 0 l.tap (map (to_z w64) l.first);
  second : AddingLanes l.window l.weights 1 l.tap (map (to_z w64) l.second);
  third : AddingLanes l.window l.weights 8 l.tap (map (to_z w64) l.third);
  fourth : AddingLanes l.window l.weights 9 l.tap (map (to_z w64) l.fourth);
}
