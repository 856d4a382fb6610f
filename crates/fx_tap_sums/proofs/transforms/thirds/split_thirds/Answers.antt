use Rattle.std.proofs.Common.{arith, ◌<◌, ◌≡◌, ◌+◌, ◌*◌, ◌∙◌, ℕ, ℤ, pos, slice_index_or}
use Rattle.fx_tap_sums.specs.Quarters.{difference_at, with_difference_at}
use Rattle.fx_tap_sums.specs.Residues.{Same}
use Rattle.fx_tap_sums.proofs.Writes.{four_more, four_left, remainders_put}
use Rattle.fx_tap_sums.proofs.transforms.thirds.split_thirds.Goals as goal

pub groups-preserved : goal.groups-preserved
groups-preserved g c =
    let p : ℤ = pos g.row.P in
    let n : ℕ = 4 * c.groups.group in
    let next : 4 * (c.groups.group + 1) ≡ n + 4 = omega arith in
    let inv = c.groups.invariant in
    let first_is : (k : ℕ) → k < 4 → slice_index_or c.load.result k 0 ≡ slice_index_or c.args.first.now (n + k) 0 = λ k l. c.load.ensures.value k l ∙ inv.first_left (n + k) (omega arith) in
    let second_is : (k : ℕ) → k < 4 → slice_index_or c.load-in-groups.result k 0 ≡ slice_index_or c.args.second.now (n + k) 0 = λ k l. c.load-in-groups.ensures.value k l ∙ inv.second_left (n + k) (omega arith) in
    let third_is : (k : ℕ) → k < 4 → slice_index_or c.load-in-groups-2.result k 0 ≡ slice_index_or c.args.third.now (n + k) 0 = λ k l. c.load-in-groups-2.ensures.value k l ∙ inv.third_left (n + k) (omega arith) in
    rw next
    (record {
      first_less = remainders_put (4 * g.row.P) n c.groups.first c.put.new.numbers c.split_four_of_thirds.result.0 c.put.auto.numbers c.put.ensures.before c.put.ensures.put c.put.ensures.after c.split_four_of_thirds.ensures.first_less inv.first_less;
      second_less = remainders_put (4 * g.row.P) n c.groups.second c.put-in-groups.new.numbers c.split_four_of_thirds.result.1 c.put-in-groups.auto.numbers c.put-in-groups.ensures.before c.put-in-groups.ensures.put c.put-in-groups.ensures.after c.split_four_of_thirds.ensures.second_less inv.second_less;
      third_less = remainders_put (2 * g.row.P) n c.groups.third c.put-in-groups-2.new.numbers c.split_four_of_thirds.result.2 c.put-in-groups-2.auto.numbers c.put-in-groups-2.ensures.before c.put-in-groups-2.ensures.put c.put-in-groups-2.ensures.after c.split_four_of_thirds.ensures.third_less inv.third_less;
      first_left = four_left n c.groups.first c.put.new.numbers c.args.first.now c.put.ensures.after inv.first_left;
      second_left = four_left n c.groups.second c.put-in-groups.new.numbers c.args.second.now c.put-in-groups.ensures.after inv.second_left;
      third_left = four_left n c.groups.third c.put-in-groups-2.new.numbers c.args.third.now c.put-in-groups-2.ensures.after inv.third_left;
      first = four_more (λ i v. Same p (pos v) (with_difference_at c.args.third.now (pos c.args.half) c.args.first.now c.args.third.now i)) n c.groups.first c.put.new.numbers c.split_four_of_thirds.result.0 c.put.ensures.before c.put.ensures.put (λ k l. rw (first_is k l, third_is k l) at (c.split_four_of_thirds.ensures.first k l)) inv.first;
      second = four_more (λ i v. Same p (pos v) (with_difference_at c.args.second.now (pos c.args.turned_half) c.args.first.now c.args.third.now i)) n c.groups.second c.put-in-groups.new.numbers c.split_four_of_thirds.result.1 c.put-in-groups.ensures.before c.put-in-groups.ensures.put (λ k l. rw (first_is k l, second_is k l, third_is k l) at (c.split_four_of_thirds.ensures.second k l)) inv.second;
      third = four_more (λ i v. Same p (pos v) (difference_at (pos c.args.half) c.args.first.now c.args.third.now i)) n c.groups.third c.put-in-groups-2.new.numbers c.split_four_of_thirds.result.2 c.put-in-groups-2.ensures.before c.put-in-groups-2.ensures.put (λ k l. rw (first_is k l, third_is k l) at (c.split_four_of_thirds.ensures.third k l)) inv.third;
    })
