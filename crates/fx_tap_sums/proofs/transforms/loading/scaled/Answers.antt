use Rattle.std.proofs.Common.{arith, rules, to_z, of_z, w32, ◌≡◌, ◌<◌, ℕ, ℤ, pos, ◌*ℤ◌, ◌∷◌, [], get_or, refl, map}
use Rattle.std.proofs.lemmas.List.{get_or_past, get_or-map, length-map, length-append}
use Rattle.fx_tap_sums.specs.Residues.{Same}
use Rattle.fx_tap_sums.proofs.Residues.{same_is, same_on, same_mul}
use Rattle.fx_tap_sums.proofs.Writes.{remainder_pushed, same_pushed}
use Rattle.fx_tap_sums.proofs.transforms.loading.scaled.Goals as goal
use Rattle.fx_tap_sums.proofs.transforms.loading.scaled.Goals.{then-place-weights, else-place-weights}

pub weights-preserved : goal.weights-preserved
weights-preserved g c =
    let p : ℤ = pos g.row.P in
    let scale : ℕ = c.args.scale in
    let f : ℤ → ℤ = λ w. pos scale *ℤ w in
    let ws = c.args.weights.now in
    let i = c.weights.place in
    let v : ℕ = c.if-place-weights.value in
    let xs = c.weights.values.items in
    let less : v < g.row.P = elim c.if-place-weights.branch [
      | then-place-weights w ↦ rw w.value-is w.times-value.ensures.less
      | else-place-weights w ↦ rw w.value-is (omega (arith, c.requires.modulus))
    ] in
    let is : Same p (pos v) (get_or (map f ws) i (pos 0)) = elim c.if-place-weights.branch [
      | then-place-weights w ↦
          let x : ℤ = get_or ws i (pos 0) in
          let back : to_z w32 (of_z w32 x) ≡ x = search rules in
          rw (w.value-is, get_or-map f ws i (pos 0) (pos 0) w.if-place-weights.true)
          (same_on p (pos w.times-value.result) (pos scale *ℤ pos w.remainder.result) (f x) (w.times-value.ensures.same) (same_mul p (pos scale) (pos w.remainder.result) x (rw back at w.remainder.ensures.same)))
      | else-place-weights w ↦
          let long = length-map ws f in
          let nothing : get_or (map f ws) i (pos 0) ≡ pos 0 = get_or_past (map f ws) i (pos 0) (omega (arith, w.if-place-weights.false)) in
          rw (w.value-is, nothing) (same_is p (pos 0) (pos 0) refl)
    ] in
    let long = length-append xs (v ∷ []) in
    rw c.in_ok-push.ensures.items
    (record {
      long = omega arith;
      remainders = remainder_pushed g.row.P xs v less c.weights.invariant.remainders;
      same = same_pushed g.row.P xs v i (map f ws) c.weights.invariant.long is c.weights.invariant.same;
    })
