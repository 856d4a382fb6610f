use Rattle.std.proofs.Common.{arith, ◌<◌, ◌≡◌, ◌+◌, ◌*◌, ◌∙◌, ℕ, ℤ, pos, ◌+ℤ◌, ◌*ℤ◌, get_or, slice_index_or, ◌-ℤ◌}
use Rattle.fx_tap_sums.specs.Residues.{Same}
use Rattle.fx_tap_sums.proofs.Writes.{four_more, four_left, remainders_put}
use Rattle.fx_tap_sums.proofs.transforms.transform.gather.Goals as goal

pub groups-preserved : goal.groups-preserved
groups-preserved g c =
    let p : ℤ = pos g.row.P in
    let n : ℕ = 4 * c.groups.group in
    let next : 4 * (c.groups.group + 1) ≡ n + 4 = omega arith in
    let inv = c.groups.invariant in
    let here : (k : ℕ) → k < 4 → slice_index_or c.load.result k 0 ≡ slice_index_or c.args.low.now (n + k) 0 = λ k l. c.load.ensures.value k l ∙ inv.low_left (n + k) (omega arith) in
    let there : (k : ℕ) → k < 4 → slice_index_or c.load-in-groups.result k 0 ≡ slice_index_or c.args.high.now (n + k) 0 = λ k l. c.load-in-groups.ensures.value k l ∙ inv.high_left (n + k) (omega arith) in
    rw next
    (record {
      low = remainders_put (4 * g.row.P) n c.groups.low c.put.new.numbers c.gather_four.result.0 c.put.auto.numbers c.put.ensures.before c.put.ensures.put c.put.ensures.after c.gather_four.ensures.low inv.low;
      high = remainders_put (4 * g.row.P) n c.groups.high c.put-in-groups.new.numbers c.gather_four.result.1 c.put-in-groups.auto.numbers c.put-in-groups.ensures.before c.put-in-groups.ensures.put c.put-in-groups.ensures.after c.gather_four.ensures.high inv.high;
      low_left = four_left n c.groups.low c.put.new.numbers c.args.low.now c.put.ensures.after inv.low_left;
      high_left = four_left n c.groups.high c.put-in-groups.new.numbers c.args.high.now c.put-in-groups.ensures.after inv.high_left;
      plus = four_more (λ i v. Same p (pos v) (pos (get_or c.args.low.now i 0) +ℤ pos (get_or c.args.high.now i 0))) n c.groups.low c.put.new.numbers c.gather_four.result.0 c.put.ensures.before c.put.ensures.put (λ k l. rw (here k l, there k l) at (c.gather_four.ensures.plus k l)) inv.plus;
      minus = four_more (λ i v. Same p (pos v) (pos c.args.inverse *ℤ (pos (get_or c.args.low.now i 0) -ℤ pos (get_or c.args.high.now i 0)))) n c.groups.high c.put-in-groups.new.numbers c.gather_four.result.1 c.put-in-groups.ensures.before c.put-in-groups.ensures.put (λ k l. rw (here k l, there k l) at (c.gather_four.ensures.minus k l)) inv.minus;
    })
