use Rattle.std.proofs.Common.{rules, ◌≡◌, ◌+◌, ◌-◌, ◌∙◌, ap, List, ℤ, ℕ, length, drop, arith, to_z, of_z}
use Rattle.std.specs.Int.{w128}
use Rattle.fx_fixed.specs.Rounding.{rounding}
use Rattle.fx_fixed.specs.declared.gains.TheConstants.{UNIT}
use Rattle.fx_tap_sums.specs.Products.{sum_of_products}
use Rattle.fx_tap_sums.proofs.KernelLaws.{sum_of_products-take}
use Rattle.fx_tap_fir.proofs.kernel.Kernel.weigh_from.Goals as goal

pub returns : goal.returns
returns c =
    let b : List ℤ = c.self.inside.backwards.items in
    let xs : List ℤ = c.args.samples.now in
    let n : ℕ = c.args.from + length xs - c.args.from in
    let same : length xs ≡ n = omega arith in
    let back : to_z w128 (of_z w128 c.dot.result) ≡ c.dot.result = search rules in
    let sum : c.dot.result ≡ sum_of_products xs (drop c.args.from b) = c.dot.ensures.sum ∙ rw c.deref.ensures.value (sum_of_products-take xs (drop c.args.from b) n same) in
    let made : c.rounded.result ≡ rounding c.dot.result UNIT = rw back at c.rounded.ensures in
    rw (← c.self.view_is) (made ∙ ap (λ z. rounding z UNIT) sum)
