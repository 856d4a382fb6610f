use Rattle.std.proofs.Common.{arith, rules, refl, ◌≡◌, ◌<◌, ◌+◌, ◌*◌, ℕ, suc, ℤ, pos, ◌*ℤ◌, ◌∷◌, length, get_or, to_z, of_z, w32}
use Rattle.std.proofs.lemmas.List.{get_or_past, length-set}
use Rattle.fx_tap_sums.specs.Residues.{Same}
use Rattle.fx_tap_sums.proofs.Residues.{same_refl}
use Rattle.fx_tap_sums.proofs.Writes.{each_more}
use Rattle.fx_tap_sums.proofs.transforms.loading.load_upper.Goals as goal

pub samples-init : goal.samples-init
samples-init g c =
    let p : ℤ = pos g.row.P in
    record {
      remainders = each_more 0 (λ k v. v < 2 * g.row.P) c.args.values.now 0 0 (omega (arith, c.requires.window)) (omega (arith, c.requires.modulus)) (λ k h. absurd (omega arith));
      same = λ upper are. each_more 0 (λ k v. Same p (pos v) (get_or (pos 0 ∷ upper) k (pos 0))) c.args.values.now 0 0 (omega (arith, c.requires.window)) (same_refl p (pos 0)) (λ k h. absurd (omega arith));
    }

pub samples-preserved : goal.samples-preserved
samples-preserved g c =
    let p : ℤ = pos g.row.P in
    let i = c.samples.place in
    let x : ℤ = get_or c.args.window.now i (pos 0) in
    let lt : i + 1 < length c.samples.values = omega (arith, c.samples.auto.values, c.requires.window, length-set {A = ℕ}) in
    let back : to_z w32 (of_z w32 x) ≡ x = search rules in
    let next : i + 1 ≡ suc i = omega arith in
    record {
      remainders = each_more 0 (λ k v. v < 2 * g.row.P) c.samples.values (i + 1) c.upper_remainder.result lt c.upper_remainder.ensures.less c.samples.invariant.remainders;
      same = λ upper are.
          let here : get_or (pos 0 ∷ upper) (i + 1) (pos 0) ≡ get_or upper i (pos 0) = rw next refl in
          let times : x ≡ pos 256 *ℤ get_or upper i (pos 0) = are.are i (omega (arith, are.long)) in
          let is : Same p (pos c.upper_remainder.result) (get_or upper i (pos 0)) = c.upper_remainder.ensures.same (get_or upper i (pos 0)) (rw back times) in
          each_more 0 (λ k v. Same p (pos v) (get_or (pos 0 ∷ upper) k (pos 0))) c.samples.values (i + 1) c.upper_remainder.result lt (rw here is) (c.samples.invariant.same upper are);
    }

pub rest-preserved : goal.rest-preserved
rest-preserved g c =
    let p : ℤ = pos g.row.P in
    let i = c.rest.place in
    let lt : i < length c.rest.values = omega arith in
    record {
      remainders = each_more 0 (λ k v. v < 2 * g.row.P) c.rest.values i 0 lt (omega (arith, c.requires.modulus)) c.rest.invariant.remainders;
      same = λ upper are.
          let nothing : get_or (pos 0 ∷ upper) i (pos 0) ≡ pos 0 = get_or_past (pos 0 ∷ upper) i (pos 0) (omega (arith, are.long)) in
          each_more 0 (λ k v. Same p (pos v) (get_or (pos 0 ∷ upper) k (pos 0))) c.rest.values i 0 lt (rw nothing (same_refl p (pos 0))) (c.rest.invariant.same upper are);
    }
