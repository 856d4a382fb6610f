use Rattle.std.proofs.Common.{rules, ◌≡◌, ◌<◌, ◌≤◌, ◌+◌, ◌-◌, ℕ, ℤ, pos, List, drop, length, slice_index_or, arith, refl}
use Rattle.std.proofs.lemmas.List.{length-drop}
use Rattle.fx_tap_sums.proofs.PairSamples.{taken-halves}
use Rattle.fx_tap_sums.proofs.PairSums.{group-sum}
use Rattle.std.proofs.lemmas.Grind.{common_steps}
use Rattle.fx_tap_sums.specs.Products.{sum_of_products}
use Rattle.fx_tap_sums.proofs.pairs.Pairs.convolve_piece.Goals as goal

pub groups-preserved : goal.groups-preserved
groups-preserved c =
    let ws : List ℤ = c.args.self.now in
    let window = c.args.window.now in
    let at = c.groups.at in
    let count = c.min-count.result in
    let long : length c.halve.new.halves ≡ 512 = search rules in
    let left = length-drop at c.halve.new.halves in
    let items : c.len.result ≡ length c.self.inside.weights.items = search rules in
    let weights : c.len.result ≡ length ws = rw (← c.self.view_is) items in
    let bound : length ws ≤ 256 = rw (← c.self.view_is) c.self.invariant.0 in
    let fits : length ws + length c.args.sums.now ≤ length window + 1 = c.requires.window in
    let whole : (i : ℕ) → i < 16 → slice_index_or c.sixteen.new.sums i (pos 0) ≡ sum_of_products (drop (at + i) window) ws = λ i l.
    group-sum window c.halve.new.halves ws _ at (512 - at) i count (omega (arith, left, long)) (omega (arith, fits, weights, l)) (omega arith) (omega (arith, long, fits, bound, l)) (c.if-not-halve.ensures.upper refl) (c.sixteen.ensures.sums i l) in
    grind (arith, common_steps, whole)

pub rest-preserved : goal.rest-preserved
rest-preserved c = grind (arith, common_steps)

pub returns-clause-exact : goal.returns-clause-exact
returns-clause-exact c =
    let window : List ℤ = c.args.window.now in
    let ws : List ℤ = c.args.self.now in
    let items : c.len.result ≡ length c.self.inside.weights.items = search rules in
    let weights : c.len.result ≡ length ws = rw (← c.self.view_is) items in
    let all = taken-halves window c.min-count.result (length ws + length c.args.sums.now) (omega (arith, weights)) (omega (arith, weights)) (λ i lt over. omega (arith, weights, lt, over)) in
    (λ _. all.0 (c.if-not-halve.ensures.exact.0 refl), λ _. refl)
