use Rattle.std.proofs.Common.{◌≡◌, ◌+◌, ◌*◌, ◌<◌, ◌≤◌, ◌^◌, ℕ, ℤ, pos, ◌*ℤ◌, List, drop, get_or, length, arith, unsigned_abs}
use Rattle.fx_tap_sums.specs.Lanes.{LanesWithin}
use Rattle.fx_tap_sums.specs.Pairs.{EightHalves, PairsAdded, PairsFit}
use Rattle.fx_tap_sums.specs.Products.{sum_of_products}
use Rattle.fx_tap_sums.proofs.PairLanes.{lane-within, passed_four, passed_halves}
use Rattle.fx_tap_sums.proofs.ProductLanes.{wide-within, wide_back}
use Rattle.fx_tap_sums.proofs.PairSums.{AddingFour, AddingFour-next, AtPair, at-pair, pairs-fit, sixteen-turns, sum-at}
use Rattle.fx_tap_sums.proofs.pairs.sixteen.Goals.{After-load_halves-weights, After-put_turns-2}
use Rattle.fx_tap_sums.proofs.pairs.sixteen.Goals as goal

inside : (c : After-load_halves-weights) → 2 * c.pairs.pair < length c.args.weights.now
inside c = omega arith

weigh : (c : After-load_halves-weights) → AtPair c.args.weights.now c.load_halves-weights.result (2 * c.pairs.pair)
weigh c = at-pair c.args.weights.now c.args.table.now c.load_halves-weights.result c.pairs.pair c.requires.table.is_table (inside c) (record { fit = c.load_halves-weights.ensures.fits; are = c.load_halves-weights.ensures.value })

-- numbers that were loaded for a place fit its sums
fit : (c : After-load_halves-weights) (base at : ℕ) (x lanes : List ℤ) → base ≤ 9 → at ≡ 2 * c.pairs.pair + base → EightHalves x → ((k : ℕ) → k < 8 → get_or x k (pos 0) ≡ get_or c.args.halves.now (at + k) (pos 0))
    → AddingFour c.args.halves.now c.args.weights.now base c.pairs.pair lanes → PairsFit lanes (passed_halves x) (passed_halves c.load_halves-weights.result)
fit c base at x lanes low is fits are =
    pairs-fit c.args.halves.now c.args.weights.now x c.load_halves-weights.result lanes base c.pairs.pair at low (inside c) c.requires.halves is c.requires.table.small (record { fit = fits; are = are }) c.load_halves-weights.ensures.fits (weigh c)

-- and are added to them
next : (c : After-load_halves-weights) (base at : ℕ) (x lanes sums : List ℤ) → base ≤ 9 → at ≡ 2 * c.pairs.pair + base → EightHalves x → ((k : ℕ) → k < 8 → get_or x k (pos 0) ≡ get_or c.args.halves.now (at + k) (pos 0))
    → AddingFour c.args.halves.now c.args.weights.now base c.pairs.pair lanes → PairsAdded lanes (passed_halves x) (passed_halves c.load_halves-weights.result) sums
    → AddingFour c.args.halves.now c.args.weights.now base (c.pairs.pair + 1) (passed_four sums)
next c base at x lanes sums low is fits are =
    AddingFour-next c.args.halves.now c.args.weights.now x c.load_halves-weights.result lanes sums base c.pairs.pair at low (inside c) c.requires.halves is (record { fit = fits; are = are }) c.load_halves-weights.ensures.fits (weigh c)

pub add_pairs-first-requires : goal.add_pairs-first-requires
add_pairs-first-requires c =
    fit (goal.at.add_pairs-first-requires c).After-load_halves-weights 0 (2 * c.pairs.pair) c.load_halves.result _ (omega arith) (omega arith) c.load_halves.ensures.fits c.load_halves.ensures.value c.pairs.invariant.first

pub add_pairs-second-requires : goal.add_pairs-second-requires
add_pairs-second-requires c =
    fit (goal.at.add_pairs-second-requires c).After-load_halves-weights 1 (2 * c.pairs.pair + 1) c.load_halves-in-pairs.result _ (omega arith) (omega arith) c.load_halves-in-pairs.ensures.fits c.load_halves-in-pairs.ensures.value c.pairs.invariant.second

pub add_pairs-third-requires : goal.add_pairs-third-requires
add_pairs-third-requires c =
    fit (goal.at.add_pairs-third-requires c).After-load_halves-weights 8 (2 * c.pairs.pair + 8) c.load_halves-in-pairs-2.result _ (omega arith) (omega arith) c.load_halves-in-pairs-2.ensures.fits c.load_halves-in-pairs-2.ensures.value c.pairs.invariant.third

pub add_pairs-fourth-requires : goal.add_pairs-fourth-requires
add_pairs-fourth-requires c =
    fit (goal.at.add_pairs-fourth-requires c).After-load_halves-weights 9 (2 * c.pairs.pair + 9) c.load_halves-in-pairs-3.result _ (omega arith) (omega arith) c.load_halves-in-pairs-3.ensures.fits c.load_halves-in-pairs-3.ensures.value c.pairs.invariant.fourth

pub pairs-preserved : goal.pairs-preserved
pairs-preserved c =
    let s = (goal.at.pairs-preserved c).After-load_halves-weights in
    let tap : ℕ = 2 * c.pairs.pair in
    record {
      first = next s 0 tap c.load_halves.result _ _ (omega arith) (omega arith) c.load_halves.ensures.fits c.load_halves.ensures.value c.pairs.invariant.first c.add_pairs-first.ensures;
      second = next s 1 (tap + 1) c.load_halves-in-pairs.result _ _ (omega arith) (omega arith) c.load_halves-in-pairs.ensures.fits c.load_halves-in-pairs.ensures.value c.pairs.invariant.second c.add_pairs-second.ensures;
      third = next s 8 (tap + 8) c.load_halves-in-pairs-2.result _ _ (omega arith) (omega arith) c.load_halves-in-pairs-2.ensures.fits c.load_halves-in-pairs-2.ensures.value c.pairs.invariant.third c.add_pairs-third.ensures;
      fourth = next s 9 (tap + 9) c.load_halves-in-pairs-3.result _ _ (omega arith) (omega arith) c.load_halves-in-pairs-3.ensures.fits c.load_halves-in-pairs-3.ensures.value c.pairs.invariant.fourth c.add_pairs-fourth.ensures;
    }

pub put_turns-requires-clause-even : goal.put_turns-requires-clause-even
put_turns-requires-clause-even c = wide-within (2 ^ 61) c.scale.result (omega arith) c.scale.ensures.small

pub put_turns-requires-clause-odd : goal.put_turns-requires-clause-odd
put_turns-requires-clause-odd c = wide-within (2 ^ 61) c.scale-2.result (omega arith) c.scale-2.ensures.small

pub put_turns-requires-2-clause-even : goal.put_turns-requires-2-clause-even
put_turns-requires-2-clause-even c = wide-within (2 ^ 61) c.scale-3.result (omega arith) c.scale-3.ensures.small

pub put_turns-requires-2-clause-odd : goal.put_turns-requires-2-clause-odd
put_turns-requires-2-clause-odd c = wide-within (2 ^ 61) c.scale-4.result (omega arith) c.scale-4.ensures.small

-- what holds of the lanes that were put holds of the sums
of_lanes : (c : After-put_turns-2) (P : ℕ → ℤ → Type 0)
    → ((k : ℕ) → k < 4 → P (0 + 2 * k) (get_or c.scale.result k (pos 0))) → ((k : ℕ) → k < 4 → P (1 + 2 * k) (get_or c.scale-2.result k (pos 0)))
    → ((k : ℕ) → k < 4 → P (8 + 2 * k) (get_or c.scale-3.result k (pos 0))) → ((k : ℕ) → k < 4 → P (9 + 2 * k) (get_or c.scale-4.result k (pos 0)))
    → (i : ℕ) → i < 16 → P i (get_or c.put_turns-2.new.sums i (pos 0))
of_lanes c P =
    let back = λ (xs : List ℤ) (small : LanesWithin (2 ^ 61) xs). wide_back (2 ^ 61) xs (omega arith) small in
    sixteen-turns P c.put_turns.new.sums c.put_turns-2.new.sums c.scale.result c.scale-2.result c.scale-3.result c.scale-4.result
    (rw (back c.scale.result c.scale.ensures.small) at c.put_turns.ensures.even) (rw (back c.scale-2.result c.scale-2.ensures.small) at c.put_turns.ensures.odd) c.put_turns-2.ensures.before
    (rw (back c.scale-3.result c.scale-3.ensures.small) at c.put_turns-2.ensures.even) (rw (back c.scale-4.result c.scale-4.ensures.small) at c.put_turns-2.ensures.odd)

pub returns-clause-sums : goal.returns-clause-sums
returns-clause-sums c =
    let halves = c.args.halves.now in
    let ws = c.args.weights.now in
    let sums = λ (lanes zs : List ℤ) (base : ℕ). sum-at halves ws lanes zs base c.pairs.pair (omega arith) in
    of_lanes (goal.at.returns-clause-sums c).After-put_turns-2 (λ i z. z ≡ sum_of_products (drop i halves) ws *ℤ pos 65536)
    (sums _ c.scale.result 0 c.pairs.invariant.first c.scale.ensures.value) (sums _ c.scale-2.result 1 c.pairs.invariant.second c.scale-2.ensures.value)
    (sums _ c.scale-3.result 8 c.pairs.invariant.third c.scale-3.ensures.value) (sums _ c.scale-4.result 9 c.pairs.invariant.fourth c.scale-4.ensures.value)

pub returns-clause-bound : goal.returns-clause-bound
returns-clause-bound c =
    of_lanes (goal.at.returns-clause-bound c).After-put_turns-2 (λ i z. unsigned_abs z ≤ 2 ^ 61)
    (λ k l. lane-within c.scale.result k l c.scale.ensures.small) (λ k l. lane-within c.scale-2.result k l c.scale-2.ensures.small)
    (λ k l. lane-within c.scale-3.result k l c.scale-3.ensures.small) (λ k l. lane-within c.scale-4.result k l c.scale-4.ensures.small)
