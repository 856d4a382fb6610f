use Rattle.std.proofs.Common.{arith, ◌≡◌, ◌≤◌, ◌+◌, ◌-◌, ℕ, List, ℤ, drop}
use Rattle.std.proofs.lemmas.Int.{ints}
use Rattle.std.proofs.lemmas.List.{drop-drop}
use Rattle.fx_tap_sums.proofs.ProductLanes.{sum_of_products-parted}
use Rattle.fx_tap_sums.proofs.products.dot.Goals as goal

pub loop-at-preserved : goal.loop-at-preserved
loop-at-preserved c =
    let at : ℕ = c.loop-at.at in
    let end : ℕ = c.min-end.result in
    let xs : List ℤ = c.args.samples.now in
    let cs : List ℤ = c.args.coefficients.now in
    let n : ℕ = end - at in
    let e : at + n ≡ end = omega (arith, c.min-end.ensures) in
    let split = rw (drop-drop n at xs, drop-drop n at cs, e) at (sum_of_products-parted (drop at xs) (drop at cs) n) in
    let some : at + 1 ≤ end = omega (arith, c.min-end.ensures) in
    record {
      value = omega (arith, ints);
      low = omega (arith, ints);
      high = omega (arith, ints);
      place = omega (arith, c.min-end.ensures);
    }
