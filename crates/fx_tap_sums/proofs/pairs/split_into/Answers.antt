use Rattle.std.proofs.Common.{rules, ◌≡◌, ◌≤◌, ◌^◌, ℤ, ℕ, pos, arith, slice_index_or, to_z, of_z, w32, unsigned_abs}
use Rattle.fx_tap_sums.specs.Pairs.{joined_halves}
use Rattle.fx_tap_sums.proofs.PartSums.{join-more}
use Rattle.fx_tap_sums.proofs.Writes.{each_more}
use Rattle.fx_tap_sums.proofs.pairs.split_into.Goals as goal

pub weights-preserved : goal.weights-preserved
weights-preserved c =
    let p : ℕ = c.weights.place in
    let h : ℤ = c.parts_of-above.result.0 in
    let l : ℤ = c.parts_of-above.result.1 in
    let above : to_z w32 (of_z w32 h) ≡ h = search rules in
    let below : to_z w32 (of_z w32 l) ≡ l = search rules in
    let now : slice_index_or c.args.weights.now p (pos 0) ≡ joined_halves (2 ^ c.args.split) h l = search rules in
    rw (above, below) (record {
      high = each_more (pos 0) (λ k v. unsigned_abs v ≤ 32767) c.weights.high p h (omega arith) c.parts_of-above.ensures.high c.weights.invariant.high;
      low = each_more (pos 0) (λ k v. unsigned_abs v ≤ 8192) c.weights.low p l (omega arith) c.parts_of-above.ensures.low c.weights.invariant.low;
      join = join-more c.args.split c.args.weights.now c.weights.high c.weights.low p h l (omega arith) (omega arith) now c.weights.invariant.join;
    })
