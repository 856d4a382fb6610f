use Rattle.std.proofs.Common.{pos, ◌≡◌, ◌<◌, ◌*ℤ◌, arith, length, rules, slice_index_or, to_z, of_z}
use Rattle.std.specs.Int.{w32, w64}
use Rattle.std.proofs.Math.ListN.{length-set}
use Rattle.fx_fixed.proofs.reduced.reduce.Goals as goal
use Rattle.fx_fixed.proofs.Reductions.{above-more}

pub coefficients-preserved : goal.coefficients-preserved
coefficients-preserved c =
    let i = c.coefficients.invariant in
    let inside : c.coefficients.place < length c.coefficients.weights = omega (arith, i.len, c.coefficients-test.true) in
    let e : pos c.divisor_of-divisor.result *ℤ to_z w32 (of_z w32 c.in-Some.weight) ≡ to_z w64 (of_z w64 c.args.gain) *ℤ slice_index_or c.args.coefficients.now c.coefficients.place (pos 0) = search rules in
    record {
      len = simp length-set i.len;
      above = above-more (pos c.divisor_of-divisor.result) (to_z w64 (of_z w64 c.args.gain)) c.args.coefficients.now c.coefficients.weights c.coefficients.place _ inside e i.above;
    }
