use Rattle.std.proofs.Common.{rules, ◌≡◌, ◌+◌, ◌*◌, ◌<◌, ◌≤◌, ◌^◌, ℕ, ℤ, pos, drop, arith, slice_index_or, to_z, of_z, unsigned_abs, map, w32, w64}
use Rattle.fx_tap_sums.specs.Products.{sum_of_products}
use Rattle.fx_tap_sums.proofs.Convolving.{Adding-bound, AddingLanes-last, AddingLanes-next, AddingLanes-within}
use Rattle.fx_tap_sums.proofs.PairSums.{sixteen-turns}
use Rattle.fx_tap_sums.proofs.ProductLanes.{wide-within}
use Rattle.fx_tap_sums.proofs.convolve.sixteen.Goals.{After-put_turns-2}
use Rattle.fx_tap_sums.proofs.convolve.sixteen.Goals as goal

pub add_products-first-requires-clause-sums : goal.add_products-first-requires-clause-sums
add_products-first-requires-clause-sums c = AddingLanes-within _ _ _ _ _ c.taps.invariant.first

pub add_products-first-requires-clause-samples : goal.add_products-first-requires-clause-samples
add_products-first-requires-clause-samples c = wide-within (2 ^ 31) c.load_even-low_even.result (omega arith) c.load_even-low_even.ensures.small

pub add_products-second-requires-clause-sums : goal.add_products-second-requires-clause-sums
add_products-second-requires-clause-sums c = AddingLanes-within _ _ _ _ _ c.taps.invariant.second

pub add_products-second-requires-clause-samples : goal.add_products-second-requires-clause-samples
add_products-second-requires-clause-samples c = wide-within (2 ^ 31) c.load_even-low_odd.result (omega arith) c.load_even-low_odd.ensures.small

pub add_products-third-requires-clause-sums : goal.add_products-third-requires-clause-sums
add_products-third-requires-clause-sums c = AddingLanes-within _ _ _ _ _ c.taps.invariant.third

pub add_products-third-requires-clause-samples : goal.add_products-third-requires-clause-samples
add_products-third-requires-clause-samples c = wide-within (2 ^ 31) c.load_even-high_even.result (omega arith) c.load_even-high_even.ensures.small

pub add_products-fourth-requires-clause-sums : goal.add_products-fourth-requires-clause-sums
add_products-fourth-requires-clause-sums c = AddingLanes-within _ _ _ _ _ c.taps.invariant.fourth

pub add_products-fourth-requires-clause-samples : goal.add_products-fourth-requires-clause-samples
add_products-fourth-requires-clause-samples c = wide-within (2 ^ 31) c.load_odd-high_odd.result (omega arith) c.load_odd-high_odd.ensures.small

pub put_turns-requires-clause-even : goal.put_turns-requires-clause-even
put_turns-requires-clause-even c = AddingLanes-within _ _ _ _ _ c.taps.invariant.first

pub put_turns-requires-clause-odd : goal.put_turns-requires-clause-odd
put_turns-requires-clause-odd c = AddingLanes-within _ _ _ _ _ c.taps.invariant.second

pub put_turns-requires-2-clause-even : goal.put_turns-requires-2-clause-even
put_turns-requires-2-clause-even c = AddingLanes-within _ _ _ _ _ c.taps.invariant.third

pub put_turns-requires-2-clause-odd : goal.put_turns-requires-2-clause-odd
put_turns-requires-2-clause-odd c = AddingLanes-within _ _ _ _ _ c.taps.invariant.fourth

pub taps-preserved : goal.taps-preserved
taps-preserved c =
    let tap = c.taps.tap in
    let w : ℤ = slice_index_or c.args.weights.now tap (pos 0) in
    let weight : to_z w32 (of_z w32 w) ≡ w = search rules in
    record {
      first = AddingLanes-next _ _ 0 tap tap _ _ _ _ c.taps-test.true c.requires.window (omega arith) (omega arith) c.load_even-low_even.ensures.small c.load_even-low_even.ensures.value weight c.add_products-first.ensures.small c.add_products-first.ensures.value c.taps.invariant.first;
      second = AddingLanes-next _ _ 1 tap (tap + 1) _ _ _ _ c.taps-test.true c.requires.window (omega arith) (omega arith) c.load_even-low_odd.ensures.small c.load_even-low_odd.ensures.value weight c.add_products-second.ensures.small c.add_products-second.ensures.value c.taps.invariant.second;
      third = AddingLanes-next _ _ 8 tap (tap + 8) _ _ _ _ c.taps-test.true c.requires.window (omega arith) (omega arith) c.load_even-high_even.ensures.small c.load_even-high_even.ensures.value weight c.add_products-third.ensures.small c.add_products-third.ensures.value c.taps.invariant.third;
      fourth = AddingLanes-next _ _ 9 tap (tap + 8 + 1) _ _ _ _ c.taps-test.true c.requires.window (omega arith) (omega arith) c.load_odd-high_odd.ensures.small c.load_odd-high_odd.ensures.value weight c.add_products-fourth.ensures.small c.add_products-fourth.ensures.value c.taps.invariant.fourth;
    }

-- what holds of the lanes holds of the sums that were put in turns
of_lanes : (c : After-put_turns-2) (P : ℕ → ℤ → Type 0)
    → ((k : ℕ) → k < 4 → P (0 + 2 * k) (slice_index_or (map (to_z w64) c.taps.first) k (pos 0))) → ((k : ℕ) → k < 4 → P (1 + 2 * k) (slice_index_or (map (to_z w64) c.taps.second) k (pos 0)))
    → ((k : ℕ) → k < 4 → P (8 + 2 * k) (slice_index_or (map (to_z w64) c.taps.third) k (pos 0))) → ((k : ℕ) → k < 4 → P (9 + 2 * k) (slice_index_or (map (to_z w64) c.taps.fourth) k (pos 0)))
    → (i : ℕ) → i < 16 → P i (slice_index_or c.put_turns-2.new.sums i (pos 0))
of_lanes c P = sixteen-turns P c.put_turns.new.sums c.put_turns-2.new.sums _ _ _ _ c.put_turns.ensures.even c.put_turns.ensures.odd c.put_turns-2.ensures.before c.put_turns-2.ensures.even c.put_turns-2.ensures.odd

pub returns-clause-sums : goal.returns-clause-sums
returns-clause-sums c =
    let over = c.taps-test.false in
    let sums = c.taps.invariant in
    of_lanes (goal.at.returns-clause-sums c).After-put_turns-2 (λ i z. z ≡ sum_of_products (drop i c.args.window.now) c.args.weights.now)
    (AddingLanes-last _ _ _ _ _ over sums.first) (AddingLanes-last _ _ _ _ _ over sums.second) (AddingLanes-last _ _ _ _ _ over sums.third) (AddingLanes-last _ _ _ _ _ over sums.fourth)

pub returns-clause-bound : goal.returns-clause-bound
returns-clause-bound c =
    let sums = c.taps.invariant in
    of_lanes (goal.at.returns-clause-bound c).After-put_turns-2 (λ i z. unsigned_abs z ≤ 2 ^ 61)
    (λ k l. Adding-bound _ _ _ _ (sums.first.each k l)) (λ k l. Adding-bound _ _ _ _ (sums.second.each k l)) (λ k l. Adding-bound _ _ _ _ (sums.third.each k l)) (λ k l. Adding-bound _ _ _ _ (sums.fourth.each k l))
