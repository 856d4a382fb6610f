use Rattle.std.proofs.Common.{arith, sym, ◌≡◌, ◌∙◌, ◌+◌, ◌<◌, ◌≤◌, ◌^◌, ℕ, ℤ, List, length, drop}
use Rattle.std.proofs.lemmas.Int.{ints}
use Rattle.fx_tap_sums.specs.Joined.{HasBothAt}
use Rattle.fx_tap_sums.specs.Prepared.{ArePreparedModuloTwo, max_sums}
use Rattle.fx_tap_sums.specs.Products.{sum_of_products}
use Rattle.fx_tap_sums.proofs.CyclicSums.{sum_bound}
use Rattle.fx_tap_sums.proofs.Divided.{upper_sum}
use Rattle.fx_tap_sums.proofs.Prepared.{place_within}
use Rattle.fx_tap_sums.proofs.transforms.spectrum.Transforms.convolve_upper.Given as given
use Rattle.fx_tap_sums.proofs.transforms.spectrum.Transforms.convolve_upper.Goals.{After-convolve_upper_modulo-2}
use Rattle.fx_tap_sums.proofs.transforms.spectrum.Transforms.convolve_upper.Goals as goal

-- the sums of the weights times the upper bits, by their remainders
both : (g : given.Over) (c : After-convolve_upper_modulo-2 g) (ws : List ℤ) (i : ℕ) → length ws ≡ c.args.weights → ArePreparedModuloTwo c.args.self.now ws → i < length c.args.sums.now →
    HasBothAt c.convolve_upper_modulo.new.values c.convolve_upper_modulo-2.new.values i (sum_of_products (drop i c.requires.upper.0) ws)
both g c ws i long prepared lt =
    let upper : List ℤ = c.requires.upper.0 in
    let are = c.requires.upper.1 in
    let inside : i + length ws ≤ length upper = omega (arith, are.long) in
    let first_size : length c.convolve_upper_modulo.new.values ≡ g.row.SIZE = omega arith in
    let second_size : length c.convolve_upper_modulo-2.new.values ≡ g.row.SIZE = omega arith in
    let max : i < max_sums g.row.SIZE = place_within i (length c.args.sums.now) (max_sums g.row.SIZE) lt c.requires.maximum in
    record {
      small = sum_bound (2 ^ 23) upper ws i are.small prepared.small;
      modulo_first = c.convolve_upper_modulo.ensures.sums upper ws are prepared.first i (rw first_size max) inside;
      modulo_second = c.convolve_upper_modulo-2.ensures.sums upper ws are prepared.second i (rw second_size max) inside;
    }

pub join_all-requires-clause-are : goal.join_all-requires-clause-are
join_all-requires-clause-are g c = λ i l.
    let weights = c.requires.prepared in
    (sum_of_products (drop i c.requires.upper.0) weights.0, both g (goal.at.join_all-requires-clause-are g c).After-convolve_upper_modulo-2 weights.0 i weights.1 weights.2 (omega arith))

pub returns-clause-sums : goal.returns-clause-sums
returns-clause-sums g c = λ ws long prepared i l.
    let are = c.requires.upper.1 in
    c.join_all.ensures i (omega arith) _ (both g (goal.at.returns-clause-sums g c).After-convolve_upper_modulo-2 ws i long prepared (omega arith)) ∙ sym (upper_sum c.args.window.now c.requires.upper.0 ws i are (omega (arith, are.long)))

pub returns-clause-bound : goal.returns-clause-bound
returns-clause-bound g c = λ i l.
    let weights = c.requires.prepared in
    let has = both g (goal.at.returns-clause-bound g c).After-convolve_upper_modulo-2 weights.0 i weights.1 weights.2 (omega arith) in
    rw (c.join_all.ensures i (omega arith) _ has) (omega (arith, ints, has.small))
