use Rattle.std.proofs.Common.{arith, ◌<◌, ◌≡◌, ◌+◌, ◌*◌, ◌∙◌, ℕ, ℤ, pos, neg_ℤ, ◌+ℤ◌, ◌*ℤ◌, get_or, slice_index_or}
use Rattle.fx_tap_sums.specs.Residues.{AreFour, AreRemainders, Same}
use Rattle.fx_tap_sums.proofs.Writes.{four_more, four_left, four_loaded}
use Rattle.fx_tap_sums.proofs.transforms.transform.spread.Goals as goal

pub groups-preserved : goal.groups-preserved
groups-preserved g c =
    let p : ℤ = pos g.row.P in
    let n : ℕ = 4 * c.groups.group in
    let next : 4 * (c.groups.group + 1) ≡ n + 4 = omega arith in
    let inv = c.groups.invariant in
    let here : (k : ℕ) → k < 4 → slice_index_or c.load.result k 0 ≡ slice_index_or c.args.low.now (n + k) 0 = λ k l. c.load.ensures.value k l ∙ inv.low_left (n + k) (omega arith) in
    let there : (k : ℕ) → k < 4 → slice_index_or c.load-in-groups.result k 0 ≡ slice_index_or c.args.high.now (n + k) 0 = λ k l. c.load-in-groups.ensures.value k l ∙ inv.high_left (n + k) (omega arith) in
    let low_long = c.groups.auto.low in
    let loaded : (bound : ℕ) → AreRemainders bound c.args.low.now → AreFour bound c.load.result = λ bound are. four_loaded bound n c.args.low.now c.load.result are c.load.ensures.four (omega arith) here in
    rw next
    (record {
      low = λ bound are. four_more (λ i v. v < bound + 2 * g.row.P) n c.groups.low c.put.new.numbers c.spread_four.result.0 c.put.ensures.before c.put.ensures.put (c.spread_four.ensures.low bound (loaded bound are)).less (inv.low bound are);
      high = λ bound are. four_more (λ i v. v < bound + 2 * g.row.P) n c.groups.high c.put-in-groups.new.numbers c.spread_four.result.1 c.put-in-groups.ensures.before c.put-in-groups.ensures.put (c.spread_four.ensures.high bound (loaded bound are)).less (inv.high bound are);
      low_left = four_left n c.groups.low c.put.new.numbers c.args.low.now c.put.ensures.after inv.low_left;
      high_left = four_left n c.groups.high c.put-in-groups.new.numbers c.args.high.now c.put-in-groups.ensures.after inv.high_left;
      plus = four_more (λ i v. Same p (pos v) (pos (get_or c.args.low.now i 0) +ℤ (pos c.args.root *ℤ pos (get_or c.args.high.now i 0)))) n c.groups.low c.put.new.numbers c.spread_four.result.0 c.put.ensures.before c.put.ensures.put (λ k l. rw (here k l, there k l) at (c.spread_four.ensures.plus k l)) inv.plus;
      minus = four_more (λ i v. Same p (pos v) (pos (get_or c.args.low.now i 0) +ℤ (neg_ℤ (pos c.args.root) *ℤ pos (get_or c.args.high.now i 0)))) n c.groups.high c.put-in-groups.new.numbers c.spread_four.result.1 c.put-in-groups.ensures.before c.put-in-groups.ensures.put (λ k l. rw (here k l, there k l) at (c.spread_four.ensures.minus k l)) inv.minus;
    })

pub returns-clause-low : goal.returns-clause-low
returns-clause-low g c = λ bound are i lt. c.groups.invariant.low bound are i (omega (arith, lt, c.groups.auto.low, c.requires.groups.1))

pub returns-clause-high : goal.returns-clause-high
returns-clause-high g c = λ bound are i lt. c.groups.invariant.high bound are i (omega (arith, lt, c.groups.auto.high, c.requires.as_many, c.requires.groups.1))
