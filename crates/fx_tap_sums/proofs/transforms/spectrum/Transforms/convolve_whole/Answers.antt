use Rattle.std.proofs.Common.{to_z, of_z, w64, arith, refl, ◌≡◌, ◌∙◌, ◌<◌, ◌*◌, ◌^◌, ℕ, ℤ, pos, List, length, get_or, drop, unsigned_abs}
use Rattle.fx_tap_sums.specs.declared.transforms.remainders.TheConstants.{FIRST}
use Rattle.fx_tap_sums.specs.Joined.{HasThree}
use Rattle.fx_tap_sums.specs.Prepared.{ArePrepared, max_sums}
use Rattle.fx_tap_sums.specs.Products.{sum_of_products}
use Rattle.fx_tap_sums.proofs.CyclicSums.{sum_bound}
use Rattle.fx_tap_sums.proofs.Prepared.{place_within}
use Rattle.fx_tap_sums.proofs.SmallSums.{held-in-64}
use Rattle.fx_tap_sums.proofs.Writes.{each_left, each_more, kept-same}
use Rattle.fx_tap_sums.proofs.transforms.spectrum.Transforms.convolve_whole.Given as given
use Rattle.fx_tap_sums.proofs.transforms.spectrum.Transforms.convolve_whole.Goals.{After-convolve_modulo-3}
use Rattle.fx_tap_sums.proofs.transforms.spectrum.Transforms.convolve_whole.Goals as goal

-- the sums of the weights, by their remainders: the first one is kept as a sum
three : (g : given.Over) (c : After-convolve_modulo-3 g) (ws : List ℤ) (i : ℕ) (s : ℤ) → length ws ≡ c.args.weights → ArePrepared c.args.self.now ws → i < length c.args.sums.now → s ≡ pos (get_or c.convolve_modulo.new.values i 0) →
    HasThree (unsigned_abs (to_z w64 (of_z w64 s))) (get_or c.convolve_modulo-2.new.values i 0) (get_or c.convolve_modulo-3.new.values i 0) (sum_of_products (drop i c.args.window.now) ws)
three g c ws i s long prepared lt held =
    let x : ℤ = sum_of_products (drop i c.args.window.now) ws in
    let first_size : length c.convolve_modulo.new.values ≡ g.row.SIZE = omega arith in
    let second_size : length c.convolve_modulo-2.new.values ≡ g.row.SIZE = omega arith in
    let third_size : length c.convolve_modulo-3.new.values ≡ g.row.SIZE = omega arith in
    let max : i < max_sums g.row.SIZE = place_within i (length c.args.sums.now) (max_sums g.row.SIZE) lt c.requires.maximum in
    let n : ℕ = get_or c.convolve_modulo.new.values i 0 in
    let less : n < 4 * FIRST = c.convolve_modulo.ensures.remainders i (omega arith) in
    record {
      small = sum_bound (2 ^ 31) c.args.window.now ws i c.convolve_modulo.ensures.samples prepared.two.small;
      modulo_first = kept-same (pos FIRST) x s n held (omega (arith, less)) (c.convolve_modulo.ensures.sums ws prepared.two.first i (rw first_size max) (omega arith));
      modulo_second = c.convolve_modulo-2.ensures.sums ws prepared.two.second i (rw second_size max) (omega arith);
      modulo_third = c.convolve_modulo-3.ensures.sums ws prepared.third i (rw third_size max) (omega arith);
    }

pub joined_three-requires-clause-is : goal.joined_three-requires-clause-is
joined_three-requires-clause-is g c =
    let i = c.places.place in
    let found = c.requires.prepared in
    let held : get_or c.places.sums i (pos 0) ≡ pos (get_or c.convolve_modulo.new.values i 0) = c.places.invariant.left i (omega arith) ∙ c.put_wide.ensures i (omega arith) in
    (sum_of_products (drop i c.args.window.now) found.0, three g (goal.at.joined_three-requires-clause-is g c).After-convolve_modulo-3 found.0 i _ found.1 found.2 (omega arith) held)

pub places-preserved : goal.places-preserved
places-preserved g c = record {
  done = λ ws long prepared.
      let i = c.places.place in
      let x : ℤ = sum_of_products (drop i c.args.window.now) ws in
      let held : get_or c.places.sums i (pos 0) ≡ pos (get_or c.convolve_modulo.new.values i 0) = c.places.invariant.left i (omega arith) ∙ c.put_wide.ensures i (omega arith) in
      let has = three g (goal.at.places-preserved g c).After-convolve_modulo-3 ws i _ long prepared (omega arith) held in
      let is : c.joined_three.result ≡ x = c.joined_three.ensures x has in
      rw (is, held-in-64 x (omega (arith, has.small)))
      (each_more (pos 0) (λ k v. v ≡ sum_of_products (drop k c.args.window.now) ws) c.places.sums i x (omega arith) refl (c.places.invariant.done ws long prepared));
  left = each_left (pos 0) c.places.sums c.put_wide.new.wide c.places.place _ c.places.invariant.left;
}

pub returns-clause-bound : goal.returns-clause-bound
returns-clause-bound g c = λ i lt.
    let w = c.args.window.now in
    let given = c.requires.prepared in
    let ws : List ℤ = given.0 in
    let long : length ws ≡ c.args.weights = given.1 in
    let done : get_or c.places.sums i (pos 0) ≡ sum_of_products (drop i w) ws = c.places.invariant.done ws long given.2 i (omega arith) in
    rw done (sum_bound (2 ^ 31) w ws i c.convolve_modulo.ensures.samples given.2.two.small)
