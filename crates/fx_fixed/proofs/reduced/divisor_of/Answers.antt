use Rattle.std.proofs.Common.{ℕ, pos, ◌≡◌, ◌*◌, rules, slice_index_or, to_z, of_z, unsigned_abs, w64}
use Rattle.std.proofs.lemmas.Int.{to_z-of_z}
use Rattle.fx_fixed.proofs.reduced.divisor_of.Goals as goal
use Rattle.fx_fixed.proofs.Reductions.{divides-more}

pub coefficients-preserved : goal.coefficients-preserved
coefficients-preserved c =
    let f : ℕ → ℕ = λ k. unsigned_abs (to_z w64 (of_z w64 c.args.gain)) * unsigned_abs (slice_index_or c.args.coefficients.now k (pos 0)) in
    let i = c.coefficients.invariant in
    let is : f c.coefficients.place ≡ c.from-size.result * c.from.result = search (rules, to_z-of_z) in
    let more = divides-more f c.args.denominator c.coefficients.divisor c.common_divisor-divisor.result (c.from-size.result * c.from.result) c.coefficients.place i.positive i.whole i.products c.common_divisor-divisor.ensures is in
    record { positive = more.positive; whole = more.whole; products = more.products }
