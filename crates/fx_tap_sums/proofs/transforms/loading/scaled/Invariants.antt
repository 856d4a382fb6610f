use Rattle.std.proofs.Common.{◌≡◌, pos, ◌*ℤ◌, length, map}
use Rattle.fx_tap_sums.specs.Residues.{AreRemainders, AreSame}
use Rattle.fx_tap_sums.proofs.transforms.loading.scaled.Given as goal

abbrev pub invariant-weights : goal.invariant-weights
invariant-weights g l = record {
  long : length l.values.items ≡ l.place;
  remainders : AreRemainders g.row.P l.values.items;
  same : AreSame g.row.P l.values.items (map (λ w. pos l.scale *ℤ w) l.weights);
}
