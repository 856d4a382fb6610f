use Rattle.std.proofs.Common.{◌≡◌, ◌≤◌, ◌^◌, ◌++◌, drop, unsigned_abs, All}
use Rattle.fx_tap_fir.proofs.kernel.reversed.Given as goal

abbrev pub invariant-coefficients : goal.invariant-coefficients
invariant-coefficients l = record {
  value : l.numbers.items ++ drop l.coefficient-index l.coefficients ≡ l.coefficients;
  small : All (λ c. unsigned_abs c ≤ 10 ^ 15) l.numbers.items;
}
