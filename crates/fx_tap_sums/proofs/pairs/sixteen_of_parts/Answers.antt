use Rattle.std.proofs.Common.{◌≡◌, ◌+◌, ◌*◌, ◌<◌, ◌≤◌, ◌^◌, ℕ, ℤ, pos, ◌*ℤ◌, List, drop, get_or, arith, unsigned_abs}
use Rattle.fx_tap_sums.specs.Lanes.{LanesWithin}
use Rattle.fx_tap_sums.specs.Pairs.{EightHalves}
use Rattle.fx_tap_sums.specs.Products.{sum_of_products}
use Rattle.fx_tap_sums.proofs.PairLanes.{lane-within}
use Rattle.fx_tap_sums.proofs.ProductLanes.{wide-within, wide_back}
use Rattle.fx_tap_sums.proofs.PairSums.{sixteen-turns}
use Rattle.fx_tap_sums.proofs.PartSums.{AddingParts-next, Carried-next, Step, high-fit, joined-small, lane-limit, low-fit, parts-sum-at}
use Rattle.fx_tap_sums.proofs.pairs.sixteen_of_parts.Given as given
use Rattle.fx_tap_sums.proofs.pairs.sixteen_of_parts.Goals.{After-load_halves-fourth, After-put_turns-2}
use Rattle.fx_tap_sums.proofs.pairs.sixteen_of_parts.Goals as goal

-- the loop adds numbers that were loaded for a place, and the weights of the pair
step-at : (g : given.Over) (c : After-load_halves-fourth g) (base at : ℕ) (x : List ℤ) → base ≤ 9 → at ≡ 2 * c.pairs.pair + base → EightHalves x → ((k : ℕ) → k < 8 → get_or x k (pos 0) ≡ get_or c.args.halves.now (at + k) (pos 0))
    → Step g.row.SPLIT c.args.halves.now c.args.weights.now c.args.high.now c.args.low.now x c.load_halves-high_weights.result c.load_halves-low_weights.result c.args.interval base c.intervals.start c.pairs.pair at
step-at g c base at x low place fits are = record {
  tables = c.requires.tables;
  base_low = low;
  inside = omega arith;
  long = c.requires.halves;
  place = place;
  after = omega arith;
  within = omega arith;
  x_loaded = record { fit = fits; are = are };
  high_loaded = record { fit = c.load_halves-high_weights.ensures.fits; are = c.load_halves-high_weights.ensures.value };
  low_loaded = record { fit = c.load_halves-low_weights.ensures.fits; are = c.load_halves-low_weights.ensures.value };
}

first-step : (g : given.Over) (c : After-load_halves-fourth g) → Step g.row.SPLIT c.args.halves.now c.args.weights.now c.args.high.now c.args.low.now c.load_halves-first.result c.load_halves-high_weights.result c.load_halves-low_weights.result c.args.interval 0 c.intervals.start c.pairs.pair (2 * c.pairs.pair)
first-step g c = step-at g c 0 (2 * c.pairs.pair) c.load_halves-first.result (omega arith) (omega arith) c.load_halves-first.ensures.fits c.load_halves-first.ensures.value

second-step : (g : given.Over) (c : After-load_halves-fourth g) → Step g.row.SPLIT c.args.halves.now c.args.weights.now c.args.high.now c.args.low.now c.load_halves-second.result c.load_halves-high_weights.result c.load_halves-low_weights.result c.args.interval 1 c.intervals.start c.pairs.pair (2 * c.pairs.pair + 1)
second-step g c = step-at g c 1 (2 * c.pairs.pair + 1) c.load_halves-second.result (omega arith) (omega arith) c.load_halves-second.ensures.fits c.load_halves-second.ensures.value

third-step : (g : given.Over) (c : After-load_halves-fourth g) → Step g.row.SPLIT c.args.halves.now c.args.weights.now c.args.high.now c.args.low.now c.load_halves-third.result c.load_halves-high_weights.result c.load_halves-low_weights.result c.args.interval 8 c.intervals.start c.pairs.pair (2 * c.pairs.pair + 8)
third-step g c = step-at g c 8 (2 * c.pairs.pair + 8) c.load_halves-third.result (omega arith) (omega arith) c.load_halves-third.ensures.fits c.load_halves-third.ensures.value

fourth-step : (g : given.Over) (c : After-load_halves-fourth g) → Step g.row.SPLIT c.args.halves.now c.args.weights.now c.args.high.now c.args.low.now c.load_halves-fourth.result c.load_halves-high_weights.result c.load_halves-low_weights.result c.args.interval 9 c.intervals.start c.pairs.pair (2 * c.pairs.pair + 9)
fourth-step g c = step-at g c 9 (2 * c.pairs.pair + 9) c.load_halves-fourth.result (omega arith) (omega arith) c.load_halves-fourth.ensures.fits c.load_halves-fourth.ensures.value

pub add_parts-requires-clause-high : goal.add_parts-requires-clause-high
add_parts-requires-clause-high g c = high-fit _ _ _ _ _ _ _ _ _ _ _ _ _ _ _ (first-step g (goal.at.add_parts-requires-clause-high g c).After-load_halves-fourth) c.pairs.invariant.first

pub add_parts-requires-clause-low : goal.add_parts-requires-clause-low
add_parts-requires-clause-low g c = low-fit _ _ _ _ _ _ _ _ _ _ _ _ _ _ _ (first-step g (goal.at.add_parts-requires-clause-low g c).After-load_halves-fourth) c.pairs.invariant.first

pub add_parts-requires-in-pairs-clause-high : goal.add_parts-requires-in-pairs-clause-high
add_parts-requires-in-pairs-clause-high g c = high-fit _ _ _ _ _ _ _ _ _ _ _ _ _ _ _ (second-step g (goal.at.add_parts-requires-in-pairs-clause-high g c).After-load_halves-fourth) c.pairs.invariant.second

pub add_parts-requires-in-pairs-clause-low : goal.add_parts-requires-in-pairs-clause-low
add_parts-requires-in-pairs-clause-low g c = low-fit _ _ _ _ _ _ _ _ _ _ _ _ _ _ _ (second-step g (goal.at.add_parts-requires-in-pairs-clause-low g c).After-load_halves-fourth) c.pairs.invariant.second

pub add_parts-requires-in-pairs-2-clause-high : goal.add_parts-requires-in-pairs-2-clause-high
add_parts-requires-in-pairs-2-clause-high g c = high-fit _ _ _ _ _ _ _ _ _ _ _ _ _ _ _ (third-step g (goal.at.add_parts-requires-in-pairs-2-clause-high g c).After-load_halves-fourth) c.pairs.invariant.third

pub add_parts-requires-in-pairs-2-clause-low : goal.add_parts-requires-in-pairs-2-clause-low
add_parts-requires-in-pairs-2-clause-low g c = low-fit _ _ _ _ _ _ _ _ _ _ _ _ _ _ _ (third-step g (goal.at.add_parts-requires-in-pairs-2-clause-low g c).After-load_halves-fourth) c.pairs.invariant.third

pub add_parts-requires-in-pairs-3-clause-high : goal.add_parts-requires-in-pairs-3-clause-high
add_parts-requires-in-pairs-3-clause-high g c = high-fit _ _ _ _ _ _ _ _ _ _ _ _ _ _ _ (fourth-step g (goal.at.add_parts-requires-in-pairs-3-clause-high g c).After-load_halves-fourth) c.pairs.invariant.fourth

pub add_parts-requires-in-pairs-3-clause-low : goal.add_parts-requires-in-pairs-3-clause-low
add_parts-requires-in-pairs-3-clause-low g c = low-fit _ _ _ _ _ _ _ _ _ _ _ _ _ _ _ (fourth-step g (goal.at.add_parts-requires-in-pairs-3-clause-low g c).After-load_halves-fourth) c.pairs.invariant.fourth

pub pairs-preserved : goal.pairs-preserved
pairs-preserved g c =
    let s = (goal.at.pairs-preserved g c).After-load_halves-fourth in
    record {
      first = AddingParts-next _ _ _ _ _ _ _ _ _ _ _ _ _ _ _ _ _ (first-step g s) c.pairs.invariant.first c.add_parts.ensures.high c.add_parts.ensures.low;
      second = AddingParts-next _ _ _ _ _ _ _ _ _ _ _ _ _ _ _ _ _ (second-step g s) c.pairs.invariant.second c.add_parts-in-pairs.ensures.high c.add_parts-in-pairs.ensures.low;
      third = AddingParts-next _ _ _ _ _ _ _ _ _ _ _ _ _ _ _ _ _ (third-step g s) c.pairs.invariant.third c.add_parts-in-pairs-2.ensures.high c.add_parts-in-pairs-2.ensures.low;
      fourth = AddingParts-next _ _ _ _ _ _ _ _ _ _ _ _ _ _ _ _ _ (fourth-step g s) c.pairs.invariant.fourth c.add_parts-in-pairs-3.ensures.high c.add_parts-in-pairs-3.ensures.low;
    }

pub intervals-preserved : goal.intervals-preserved
intervals-preserved g c = record {
  start = omega arith;
  first = let e = c.carry.ensures in Carried-next _ _ _ _ _ _ _ _ _ _ _ _ (omega arith) c.pairs.invariant.first e.high e.low e.value e.below;
  second = let e = c.carry-in-intervals.ensures in Carried-next _ _ _ _ _ _ _ _ _ _ _ _ (omega arith) c.pairs.invariant.second e.high e.low e.value e.below;
  third = let e = c.carry-in-intervals-2.ensures in Carried-next _ _ _ _ _ _ _ _ _ _ _ _ (omega arith) c.pairs.invariant.third e.high e.low e.value e.below;
  fourth = let e = c.carry-in-intervals-3.ensures in Carried-next _ _ _ _ _ _ _ _ _ _ _ _ (omega arith) c.pairs.invariant.fourth e.high e.low e.value e.below;
}

pub carry-requires-clause-small : goal.carry-requires-clause-small
carry-requires-clause-small g c = joined-small _ _ _ _ _ _ _ _ _ _ _ c.requires.tables c.pairs.invariant.first

pub carry-requires-in-intervals-clause-small : goal.carry-requires-in-intervals-clause-small
carry-requires-in-intervals-clause-small g c = joined-small _ _ _ _ _ _ _ _ _ _ _ c.requires.tables c.pairs.invariant.second

pub carry-requires-in-intervals-2-clause-small : goal.carry-requires-in-intervals-2-clause-small
carry-requires-in-intervals-2-clause-small g c = joined-small _ _ _ _ _ _ _ _ _ _ _ c.requires.tables c.pairs.invariant.third

pub carry-requires-in-intervals-3-clause-small : goal.carry-requires-in-intervals-3-clause-small
carry-requires-in-intervals-3-clause-small g c = joined-small _ _ _ _ _ _ _ _ _ _ _ c.requires.tables c.pairs.invariant.fourth

pub scale_parts-requires-clause-small : goal.scale_parts-requires-clause-small
scale_parts-requires-clause-small g c = lane-limit _ _ _ _ _ _ _ _ _ _ c.requires.tables c.intervals.invariant.first

pub scale_parts-requires-2-clause-small : goal.scale_parts-requires-2-clause-small
scale_parts-requires-2-clause-small g c = lane-limit _ _ _ _ _ _ _ _ _ _ c.requires.tables c.intervals.invariant.second

pub scale_parts-requires-3-clause-small : goal.scale_parts-requires-3-clause-small
scale_parts-requires-3-clause-small g c = lane-limit _ _ _ _ _ _ _ _ _ _ c.requires.tables c.intervals.invariant.third

pub scale_parts-requires-4-clause-small : goal.scale_parts-requires-4-clause-small
scale_parts-requires-4-clause-small g c = lane-limit _ _ _ _ _ _ _ _ _ _ c.requires.tables c.intervals.invariant.fourth

pub put_turns-requires-clause-even : goal.put_turns-requires-clause-even
put_turns-requires-clause-even g c = wide-within (2 ^ 61) c.scale_parts.result (omega arith) c.scale_parts.ensures.small

pub put_turns-requires-clause-odd : goal.put_turns-requires-clause-odd
put_turns-requires-clause-odd g c = wide-within (2 ^ 61) c.scale_parts-2.result (omega arith) c.scale_parts-2.ensures.small

pub put_turns-requires-2-clause-even : goal.put_turns-requires-2-clause-even
put_turns-requires-2-clause-even g c = wide-within (2 ^ 61) c.scale_parts-3.result (omega arith) c.scale_parts-3.ensures.small

pub put_turns-requires-2-clause-odd : goal.put_turns-requires-2-clause-odd
put_turns-requires-2-clause-odd g c = wide-within (2 ^ 61) c.scale_parts-4.result (omega arith) c.scale_parts-4.ensures.small

-- what holds of the lanes that were put holds of the sums
of_lanes : (g : given.Over) (c : After-put_turns-2 g) (P : ℕ → ℤ → Type 0)
    → ((k : ℕ) → k < 4 → P (0 + 2 * k) (get_or c.scale_parts.result k (pos 0))) → ((k : ℕ) → k < 4 → P (1 + 2 * k) (get_or c.scale_parts-2.result k (pos 0)))
    → ((k : ℕ) → k < 4 → P (8 + 2 * k) (get_or c.scale_parts-3.result k (pos 0))) → ((k : ℕ) → k < 4 → P (9 + 2 * k) (get_or c.scale_parts-4.result k (pos 0)))
    → (i : ℕ) → i < 16 → P i (get_or c.put_turns-2.new.sums i (pos 0))
of_lanes g c P =
    let back = λ (xs : List ℤ) (small : LanesWithin (2 ^ 61) xs). wide_back (2 ^ 61) xs (omega arith) small in
    sixteen-turns P c.put_turns.new.sums c.put_turns-2.new.sums c.scale_parts.result c.scale_parts-2.result c.scale_parts-3.result c.scale_parts-4.result
    (rw (back c.scale_parts.result c.scale_parts.ensures.small) at c.put_turns.ensures.even) (rw (back c.scale_parts-2.result c.scale_parts-2.ensures.small) at c.put_turns.ensures.odd) c.put_turns-2.ensures.before
    (rw (back c.scale_parts-3.result c.scale_parts-3.ensures.small) at c.put_turns-2.ensures.even) (rw (back c.scale_parts-4.result c.scale_parts-4.ensures.small) at c.put_turns-2.ensures.odd)

pub returns-clause-sums : goal.returns-clause-sums
returns-clause-sums g c =
    let halves = c.args.halves.now in
    let ws = c.args.weights.now in
    let sums = λ (high low zs : List ℤ) (base : ℕ). parts-sum-at g.row.SPLIT halves ws high low zs base c.intervals.start (omega arith) in
    of_lanes g (goal.at.returns-clause-sums g c).After-put_turns-2 (λ i z. z ≡ sum_of_products (drop i halves) ws *ℤ pos 65536)
    (sums _ _ c.scale_parts.result 0 c.intervals.invariant.first c.scale_parts.ensures.value) (sums _ _ c.scale_parts-2.result 1 c.intervals.invariant.second c.scale_parts-2.ensures.value)
    (sums _ _ c.scale_parts-3.result 8 c.intervals.invariant.third c.scale_parts-3.ensures.value) (sums _ _ c.scale_parts-4.result 9 c.intervals.invariant.fourth c.scale_parts-4.ensures.value)

pub returns-clause-bound : goal.returns-clause-bound
returns-clause-bound g c =
    of_lanes g (goal.at.returns-clause-bound g c).After-put_turns-2 (λ i z. unsigned_abs z ≤ 2 ^ 61)
    (λ k l. lane-within c.scale_parts.result k l c.scale_parts.ensures.small) (λ k l. lane-within c.scale_parts-2.result k l c.scale_parts-2.ensures.small)
    (λ k l. lane-within c.scale_parts-3.result k l c.scale_parts-3.ensures.small) (λ k l. lane-within c.scale_parts-4.result k l c.scale_parts-4.ensures.small)
