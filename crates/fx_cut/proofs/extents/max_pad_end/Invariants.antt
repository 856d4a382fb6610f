use Rattle.std.proofs.Common.{◌≡◌, drop, map, max}
use Rattle.fx_fixed.specs.Extents.{largest}
use Rattle.fx_cut.specs.PadExtents.{pad_distance}
use Rattle.fx_cut.proofs.extents.max_pad_end.Given as goal

abbrev pub invariant-pads : goal.invariant-pads
invariant-pads l = max l.maximum (largest (map pad_distance (drop l.pad-index l.pads))) ≡ largest (map pad_distance l.pads)
