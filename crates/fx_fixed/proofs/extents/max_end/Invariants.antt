use Rattle.std.proofs.Common.{◌≡◌, drop, map, max}
use Rattle.fx_fixed.specs.Extents.{end_distance, largest}
use Rattle.fx_fixed.proofs.extents.max_end.Given as goal

abbrev pub invariant-positions : goal.invariant-positions
invariant-positions l = max l.maximum (largest (map end_distance (drop l.position-index l.positions))) ≡ largest (map end_distance l.positions)
