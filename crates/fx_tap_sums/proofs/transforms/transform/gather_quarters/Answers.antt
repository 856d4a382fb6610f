use Rattle.std.proofs.Common.{arith, ◌<◌, ◌≡◌, ◌+◌, ◌*◌, ◌∙◌, ℕ, ℤ, pos, ◌+ℤ◌, ◌*ℤ◌, get_or, slice_index_or, ◌-ℤ◌}
use Rattle.fx_tap_sums.specs.Quarters.{difference_at, sum_at}
use Rattle.fx_tap_sums.specs.Residues.{Same}
use Rattle.fx_tap_sums.specs.Transform.{root_at}
use Rattle.fx_tap_sums.proofs.Steps.{read_at}
use Rattle.fx_tap_sums.proofs.Writes.{four_more, four_left, remainders_put}
use Rattle.fx_tap_sums.proofs.transforms.transform.gather_quarters.Goals as goal

pub groups-preserved : goal.groups-preserved
groups-preserved g c =
    let p : ℤ = pos g.row.P in
    let table = c.args.inverses.now in
    let place = c.args.place in
    let inverse_is : c.index-inverses-place.result ≡ get_or table place 0 = read_at table place c.index-inverses-place.result (omega (arith, c.requires.table, c.requires.place)) c.index-inverses-place.is in
    let low_inverse_is : c.index-inverses-place-2.result ≡ get_or table (2 * place) 0 = read_at table (2 * place) c.index-inverses-place-2.result (omega (arith, c.requires.table, c.requires.place)) c.index-inverses-place-2.is in
    let high_inverse_is : c.index-inverses-place-3.result ≡ get_or table (2 * place + 1) 0 = read_at table (2 * place + 1) c.index-inverses-place-3.result (omega (arith, c.requires.table, c.requires.place)) c.index-inverses-place-3.is in
    let n : ℕ = 4 * c.groups.group in
    let next : 4 * (c.groups.group + 1) ≡ n + 4 = omega arith in
    let inv = c.groups.invariant in
    let first_is : (k : ℕ) → k < 4 → slice_index_or c.load.result k 0 ≡ slice_index_or c.args.first.now (n + k) 0 = λ k l. c.load.ensures.value k l ∙ inv.first_left (n + k) (omega arith) in
    let second_is : (k : ℕ) → k < 4 → slice_index_or c.load-in-groups.result k 0 ≡ slice_index_or c.args.second.now (n + k) 0 = λ k l. c.load-in-groups.ensures.value k l ∙ inv.second_left (n + k) (omega arith) in
    let third_is : (k : ℕ) → k < 4 → slice_index_or c.load-in-groups-2.result k 0 ≡ slice_index_or c.args.third.now (n + k) 0 = λ k l. c.load-in-groups-2.ensures.value k l ∙ inv.third_left (n + k) (omega arith) in
    let fourth_is : (k : ℕ) → k < 4 → slice_index_or c.load-in-groups-3.result k 0 ≡ slice_index_or c.args.fourth.now (n + k) 0 = λ k l. c.load-in-groups-3.ensures.value k l ∙ inv.fourth_left (n + k) (omega arith) in
    let second_lane : (k : ℕ) → k < 4 → Same p (pos (slice_index_or c.gather_two_levels.result.1 k 0)) (difference_at (pos c.index-inverses-place-2.result) c.load.result c.load-in-groups.result k +ℤ difference_at (pos c.index-inverses-place-3.result) c.load-in-groups-2.result c.load-in-groups-3.result k) = c.gather_two_levels.ensures.second in
    let fourth_lane : (k : ℕ) → k < 4 → Same p (pos (slice_index_or c.gather_two_levels.result.3 k 0)) (pos c.index-inverses-place.result *ℤ (difference_at (pos c.index-inverses-place-2.result) c.load.result c.load-in-groups.result k -ℤ difference_at (pos c.index-inverses-place-3.result) c.load-in-groups-2.result c.load-in-groups-3.result k)) = c.gather_two_levels.ensures.fourth in
    rw next
    (record {
      first_less = remainders_put (4 * g.row.P) n c.groups.first c.put.new.numbers c.gather_two_levels.result.0 c.put.auto.numbers c.put.ensures.before c.put.ensures.put c.put.ensures.after c.gather_two_levels.ensures.first_less inv.first_less;
      first_left = four_left n c.groups.first c.put.new.numbers c.args.first.now c.put.ensures.after inv.first_left;
      first = four_more (λ i v. Same p (pos v) (sum_at c.args.first.now c.args.second.now i +ℤ sum_at c.args.third.now c.args.fourth.now i)) n c.groups.first c.put.new.numbers c.gather_two_levels.result.0 c.put.ensures.before c.put.ensures.put (λ k l. rw (first_is k l, second_is k l, third_is k l, fourth_is k l) at (c.gather_two_levels.ensures.first k l)) inv.first;
      second_less = remainders_put (4 * g.row.P) n c.groups.second c.put-in-groups.new.numbers c.gather_two_levels.result.1 c.put-in-groups.auto.numbers c.put-in-groups.ensures.before c.put-in-groups.ensures.put c.put-in-groups.ensures.after c.gather_two_levels.ensures.second_less inv.second_less;
      second_left = four_left n c.groups.second c.put-in-groups.new.numbers c.args.second.now c.put-in-groups.ensures.after inv.second_left;
      second = four_more (λ i v. Same p (pos v) (difference_at (root_at table (2 * place)) c.args.first.now c.args.second.now i +ℤ difference_at (root_at table (2 * place + 1)) c.args.third.now c.args.fourth.now i)) n c.groups.second c.put-in-groups.new.numbers c.gather_two_levels.result.1 c.put-in-groups.ensures.before c.put-in-groups.ensures.put (λ k l. rw (low_inverse_is, high_inverse_is, first_is k l, second_is k l, third_is k l, fourth_is k l) at (second_lane k l)) inv.second;
      third_less = remainders_put (4 * g.row.P) n c.groups.third c.put-in-groups-2.new.numbers c.gather_two_levels.result.2 c.put-in-groups-2.auto.numbers c.put-in-groups-2.ensures.before c.put-in-groups-2.ensures.put c.put-in-groups-2.ensures.after c.gather_two_levels.ensures.third_less inv.third_less;
      third_left = four_left n c.groups.third c.put-in-groups-2.new.numbers c.args.third.now c.put-in-groups-2.ensures.after inv.third_left;
      third = four_more (λ i v. Same p (pos v) (root_at table place *ℤ (sum_at c.args.first.now c.args.second.now i -ℤ sum_at c.args.third.now c.args.fourth.now i))) n c.groups.third c.put-in-groups-2.new.numbers c.gather_two_levels.result.2 c.put-in-groups-2.ensures.before c.put-in-groups-2.ensures.put (λ k l. rw (inverse_is, first_is k l, second_is k l, third_is k l, fourth_is k l) at (c.gather_two_levels.ensures.third k l)) inv.third;
      fourth_less = remainders_put (4 * g.row.P) n c.groups.fourth c.put-in-groups-3.new.numbers c.gather_two_levels.result.3 c.put-in-groups-3.auto.numbers c.put-in-groups-3.ensures.before c.put-in-groups-3.ensures.put c.put-in-groups-3.ensures.after c.gather_two_levels.ensures.fourth_less inv.fourth_less;
      fourth_left = four_left n c.groups.fourth c.put-in-groups-3.new.numbers c.args.fourth.now c.put-in-groups-3.ensures.after inv.fourth_left;
      fourth = four_more (λ i v. Same p (pos v) (root_at table place *ℤ (difference_at (root_at table (2 * place)) c.args.first.now c.args.second.now i -ℤ difference_at (root_at table (2 * place + 1)) c.args.third.now c.args.fourth.now i))) n c.groups.fourth c.put-in-groups-3.new.numbers c.gather_two_levels.result.3 c.put-in-groups-3.ensures.before c.put-in-groups-3.ensures.put (λ k l. rw (inverse_is, low_inverse_is, high_inverse_is, first_is k l, second_is k l, third_is k l, fourth_is k l) at (fourth_lane k l)) inv.fourth;
    })
