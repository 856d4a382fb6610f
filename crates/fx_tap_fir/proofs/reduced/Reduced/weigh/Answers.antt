use Rattle.std.proofs.Common.{rules, ◌≡◌, ◌+◌, ◌-◌, ◌≤◌, ◌^◌, ◌∙◌, ap, List, ℤ, ℕ, length, drop, arith, to_z, of_z, w64, sum_by, unsigned_abs}
use Rattle.fx_fixed.specs.Rounding.{rounding}
use Rattle.fx_tap_sums.specs.Products.{sum_of_products}
use Rattle.fx_tap_sums.proofs.KernelLaws.{part-bound, sum_of_products-take}
use Rattle.fx_tap_fir.proofs.reduced.Reduced.weigh.Goals as goal

pub small_dot-requires-clause-small : goal.small_dot-requires-clause-small
small_dot-requires-clause-small c =
    let ws : List ℤ = c.self-inside.inside.0.0.weights.items in
    let bound : sum_by unsigned_abs ws ≤ 2 ^ 30 = rw (← c.self-inside.view_is) at c.self.invariant.1 in
    let part = part-bound ws c.args.from (c.args.from + length c.args.samples.now - c.args.from) in
    rw c.deref.ensures.value (omega (arith, part, bound))

pub returns : goal.returns
returns c =
    let xs : List ℤ = c.args.samples.now in
    let ws : List ℤ = c.self-inside.inside.0.0.weights.items in
    let n : ℕ = c.args.from + length xs - c.args.from in
    let same : length xs ≡ n = omega arith in
    let back : to_z w64 (of_z w64 c.small_dot.result) ≡ c.small_dot.result = search rules in
    let sum : c.small_dot.result ≡ sum_of_products xs (drop c.args.from ws) = c.small_dot.ensures.sum ∙ rw c.deref.ensures.value (sum_of_products-take xs (drop c.args.from ws) n same) in
    let q : ℕ = c.self-inside.inside.0.0.denominator in
    let made : c.round.result ≡ rounding c.small_dot.result q = rw back at c.round.ensures in
    rw (← c.self.view_is, ← c.self-inside.view_is) (made ∙ ap (λ z. rounding z q) sum)
