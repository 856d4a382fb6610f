use Rattle.std.proofs.Common.{◌≡◌, ◌*◌, ◌^◌, ◌≤◌, sum_by, take, unsigned_abs}
use Rattle.fx_fixed.proofs.reduced.size_of_weights.Given as goal

abbrev pub invariant-weights : goal.invariant-weights
invariant-weights l = record {
  sum : l.size ≡ sum_by unsigned_abs (take l.weight-index l.weights);
  bound : l.size ≤ l.weight-index * 2 ^ 31;
}
