use Rattle.std.proofs.Common.{arith, ◌<◌, ◌≡◌, ◌+◌, ◌*◌, ◌∙◌, ℕ, ℤ, pos, neg_ℤ, ◌+ℤ◌, ◌*ℤ◌, get_or, slice_index_or}
use Rattle.fx_tap_sums.specs.Quarters.{spread_at}
use Rattle.fx_tap_sums.specs.Residues.{AreFour, AreRemainders, Same}
use Rattle.fx_tap_sums.specs.Transform.{root_at}
use Rattle.fx_tap_sums.proofs.Quarters.{spread_loaded}
use Rattle.fx_tap_sums.proofs.Steps.{read_at}
use Rattle.fx_tap_sums.proofs.Writes.{four_more, four_left, four_loaded}
use Rattle.fx_tap_sums.proofs.transforms.transform.spread_quarters.Goals as goal

pub groups-preserved : goal.groups-preserved
groups-preserved g c =
    let p : ℤ = pos g.row.P in
    let plus : ℕ → ℤ = λ z. pos z in
    let minus : ℕ → ℤ = λ z. neg_ℤ (pos z) in
    let table = c.args.roots.now in
    let place = c.args.place in
    let root_is : c.index-roots-place.result ≡ get_or table place 0 = read_at table place c.index-roots-place.result (omega (arith, c.requires.table, c.requires.place)) c.index-roots-place.is in
    let low_root_is : c.index-roots-place-2.result ≡ get_or table (2 * place) 0 = read_at table (2 * place) c.index-roots-place-2.result (omega (arith, c.requires.table, c.requires.place)) c.index-roots-place-2.is in
    let high_root_is : c.index-roots-place-3.result ≡ get_or table (2 * place + 1) 0 = read_at table (2 * place + 1) c.index-roots-place-3.result (omega (arith, c.requires.table, c.requires.place)) c.index-roots-place-3.is in
    let n : ℕ = 4 * c.groups.group in
    let next : 4 * (c.groups.group + 1) ≡ n + 4 = omega arith in
    let inv = c.groups.invariant in
    let first_is : (k : ℕ) → k < 4 → slice_index_or c.load.result k 0 ≡ slice_index_or c.args.first.now (n + k) 0 = λ k l. c.load.ensures.value k l ∙ inv.first_left (n + k) (omega arith) in
    let second_is : (k : ℕ) → k < 4 → slice_index_or c.load-in-groups.result k 0 ≡ slice_index_or c.args.second.now (n + k) 0 = λ k l. c.load-in-groups.ensures.value k l ∙ inv.second_left (n + k) (omega arith) in
    let third_is : (k : ℕ) → k < 4 → slice_index_or c.load-in-groups-2.result k 0 ≡ slice_index_or c.args.third.now (n + k) 0 = λ k l. c.load-in-groups-2.ensures.value k l ∙ inv.third_left (n + k) (omega arith) in
    let fourth_is : (k : ℕ) → k < 4 → slice_index_or c.load-in-groups-3.result k 0 ≡ slice_index_or c.args.fourth.now (n + k) 0 = λ k l. c.load-in-groups-3.ensures.value k l ∙ inv.fourth_left (n + k) (omega arith) in
    let loaded : (bound : ℕ) → AreRemainders bound c.args.first.now → AreFour bound c.load.result = λ bound are. four_loaded bound n c.args.first.now c.load.result are c.load.ensures.four (omega (arith, c.groups.auto.first)) first_is in
    rw next
    (record {
      first_less = λ bound are. four_more (λ i v. v < bound + 4 * g.row.P) n c.groups.first c.put.new.numbers c.spread_two_levels.result.0 c.put.ensures.before c.put.ensures.put (c.spread_two_levels.ensures.first_less bound (loaded bound are)).less (inv.first_less bound are);
      first_left = four_left n c.groups.first c.put.new.numbers c.args.first.now c.put.ensures.after inv.first_left;
      first = four_more (λ i v. Same p (pos v) (spread_at (root_at table place) c.args.first.now c.args.third.now i +ℤ (root_at table (2 * place) *ℤ spread_at (root_at table place) c.args.second.now c.args.fourth.now i))) n c.groups.first c.put.new.numbers c.spread_two_levels.result.0 c.put.ensures.before c.put.ensures.put (λ k l. spread_loaded p plus plus (get_or table place 0) c.index-roots-place.result (get_or table (2 * place) 0) c.index-roots-place-2.result (pos (slice_index_or c.spread_two_levels.result.0 k 0)) n k c.load.result c.load-in-groups.result c.load-in-groups-2.result c.load-in-groups-3.result c.args.first.now c.args.second.now c.args.third.now c.args.fourth.now root_is low_root_is (first_is k l) (second_is k l) (third_is k l) (fourth_is k l) (c.spread_two_levels.ensures.first k l)) inv.first;
      second_less = λ bound are. four_more (λ i v. v < bound + 4 * g.row.P) n c.groups.second c.put-in-groups.new.numbers c.spread_two_levels.result.1 c.put-in-groups.ensures.before c.put-in-groups.ensures.put (c.spread_two_levels.ensures.second_less bound (loaded bound are)).less (inv.second_less bound are);
      second_left = four_left n c.groups.second c.put-in-groups.new.numbers c.args.second.now c.put-in-groups.ensures.after inv.second_left;
      second = four_more (λ i v. Same p (pos v) (spread_at (root_at table place) c.args.first.now c.args.third.now i +ℤ (neg_ℤ (root_at table (2 * place)) *ℤ spread_at (root_at table place) c.args.second.now c.args.fourth.now i))) n c.groups.second c.put-in-groups.new.numbers c.spread_two_levels.result.1 c.put-in-groups.ensures.before c.put-in-groups.ensures.put (λ k l. spread_loaded p plus minus (get_or table place 0) c.index-roots-place.result (get_or table (2 * place) 0) c.index-roots-place-2.result (pos (slice_index_or c.spread_two_levels.result.1 k 0)) n k c.load.result c.load-in-groups.result c.load-in-groups-2.result c.load-in-groups-3.result c.args.first.now c.args.second.now c.args.third.now c.args.fourth.now root_is low_root_is (first_is k l) (second_is k l) (third_is k l) (fourth_is k l) (c.spread_two_levels.ensures.second k l)) inv.second;
      third_less = λ bound are. four_more (λ i v. v < bound + 4 * g.row.P) n c.groups.third c.put-in-groups-2.new.numbers c.spread_two_levels.result.2 c.put-in-groups-2.ensures.before c.put-in-groups-2.ensures.put (c.spread_two_levels.ensures.third_less bound (loaded bound are)).less (inv.third_less bound are);
      third_left = four_left n c.groups.third c.put-in-groups-2.new.numbers c.args.third.now c.put-in-groups-2.ensures.after inv.third_left;
      third = four_more (λ i v. Same p (pos v) (spread_at (neg_ℤ (root_at table place)) c.args.first.now c.args.third.now i +ℤ (root_at table (2 * place + 1) *ℤ spread_at (neg_ℤ (root_at table place)) c.args.second.now c.args.fourth.now i))) n c.groups.third c.put-in-groups-2.new.numbers c.spread_two_levels.result.2 c.put-in-groups-2.ensures.before c.put-in-groups-2.ensures.put (λ k l. spread_loaded p minus plus (get_or table place 0) c.index-roots-place.result (get_or table (2 * place + 1) 0) c.index-roots-place-3.result (pos (slice_index_or c.spread_two_levels.result.2 k 0)) n k c.load.result c.load-in-groups.result c.load-in-groups-2.result c.load-in-groups-3.result c.args.first.now c.args.second.now c.args.third.now c.args.fourth.now root_is high_root_is (first_is k l) (second_is k l) (third_is k l) (fourth_is k l) (c.spread_two_levels.ensures.third k l)) inv.third;
      fourth_less = λ bound are. four_more (λ i v. v < bound + 4 * g.row.P) n c.groups.fourth c.put-in-groups-3.new.numbers c.spread_two_levels.result.3 c.put-in-groups-3.ensures.before c.put-in-groups-3.ensures.put (c.spread_two_levels.ensures.fourth_less bound (loaded bound are)).less (inv.fourth_less bound are);
      fourth_left = four_left n c.groups.fourth c.put-in-groups-3.new.numbers c.args.fourth.now c.put-in-groups-3.ensures.after inv.fourth_left;
      fourth = four_more (λ i v. Same p (pos v) (spread_at (neg_ℤ (root_at table place)) c.args.first.now c.args.third.now i +ℤ (neg_ℤ (root_at table (2 * place + 1)) *ℤ spread_at (neg_ℤ (root_at table place)) c.args.second.now c.args.fourth.now i))) n c.groups.fourth c.put-in-groups-3.new.numbers c.spread_two_levels.result.3 c.put-in-groups-3.ensures.before c.put-in-groups-3.ensures.put (λ k l. spread_loaded p minus minus (get_or table place 0) c.index-roots-place.result (get_or table (2 * place + 1) 0) c.index-roots-place-3.result (pos (slice_index_or c.spread_two_levels.result.3 k 0)) n k c.load.result c.load-in-groups.result c.load-in-groups-2.result c.load-in-groups-3.result c.args.first.now c.args.second.now c.args.third.now c.args.fourth.now root_is high_root_is (first_is k l) (second_is k l) (third_is k l) (fourth_is k l) (c.spread_two_levels.ensures.fourth k l)) inv.fourth;
    })

pub returns-clause-first_less : goal.returns-clause-first_less
returns-clause-first_less g c = λ bound are i lt. c.groups.invariant.first_less bound are i (omega (arith, lt, c.groups.auto.first, c.requires.groups.1))

pub returns-clause-second_less : goal.returns-clause-second_less
returns-clause-second_less g c = λ bound are i lt. c.groups.invariant.second_less bound are i (omega (arith, lt, c.groups.auto.second, c.requires.as_many, c.requires.groups.1))

pub returns-clause-third_less : goal.returns-clause-third_less
returns-clause-third_less g c = λ bound are i lt. c.groups.invariant.third_less bound are i (omega (arith, lt, c.groups.auto.third, c.requires.as_many_third, c.requires.groups.1))

pub returns-clause-fourth_less : goal.returns-clause-fourth_less
returns-clause-fourth_less g c = λ bound are i lt. c.groups.invariant.fourth_less bound are i (omega (arith, lt, c.groups.auto.fourth, c.requires.as_many_fourth, c.requires.groups.1))
