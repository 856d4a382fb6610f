use Rattle.std.proofs.Common.{rules, ◌≡◌, ℤ, ℕ, pos, arith, slice_index_or, to_z, of_z, w32}
use Rattle.fx_tap_fir.specs.Split.{joined_split}
use Rattle.fx_tap_fir.proofs.SplitLaws.{split-more}
use Rattle.fx_tap_fir.proofs.split.split_into.Goals as goal

pub coefficients-preserved : goal.coefficients-preserved
coefficients-preserved c =
    let p : ℕ = c.coefficients.place in
    let h : ℤ = c.parts_of-above.result.0 in
    let l : ℤ = c.parts_of-above.result.1 in
    let above : to_z w32 (of_z w32 h) ≡ h = search rules in
    let below : to_z w32 (of_z w32 l) ≡ l = search rules in
    let now : slice_index_or c.args.coefficients.now p (pos 0) ≡ joined_split h l = search rules in
    rw (above, below) (split-more c.args.coefficients.now c.coefficients.high c.coefficients.low p h l (omega arith) (omega arith) now c.coefficients.invariant)
