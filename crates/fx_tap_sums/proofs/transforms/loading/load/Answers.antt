use Rattle.std.proofs.Common.{arith, rules, refl, ◌≡◌, ◌<◌, ◌≤◌, ◌+◌, ◌*◌, ◌^◌, ℕ, suc, unsigned_abs, below_more, ℤ, pos, ◌∷◌, length, get_or, to_z, of_z, w32}
use Rattle.std.proofs.lemmas.List.{get_or_past, length-set}
use Rattle.fx_tap_sums.specs.Residues.{Same}
use Rattle.fx_tap_sums.proofs.Residues.{same_refl}
use Rattle.fx_tap_sums.proofs.Writes.{each_more}
use Rattle.fx_tap_sums.proofs.transforms.loading.load.Goals as goal

pub samples-init : goal.samples-init
samples-init g c =
    let p : ℤ = pos g.row.P in
    record {
      remainders = each_more 0 (λ k v. v < 2 * g.row.P) c.args.values.now 0 0 (omega (arith, c.requires.window)) (omega (arith, c.requires.modulus)) (λ k h. absurd (omega arith));
      samples = λ k h. absurd (omega arith);
      same = each_more 0 (λ k v. Same p (pos v) (get_or (pos 0 ∷ c.args.window.now) k (pos 0))) c.args.values.now 0 0 (omega (arith, c.requires.window)) (same_refl p (pos 0)) (λ k h. absurd (omega arith));
    }

pub samples-preserved : goal.samples-preserved
samples-preserved g c =
    let p : ℤ = pos g.row.P in
    let i = c.samples.place in
    let x : ℤ = get_or c.args.window.now i (pos 0) in
    let lt : i + 1 < length c.samples.values = omega (arith, c.samples.auto.values, c.requires.window, length-set {A = ℕ}) in
    let back : to_z w32 (of_z w32 x) ≡ x = search rules in
    let next : i + 1 ≡ suc i = omega arith in
    let here : get_or (pos 0 ∷ c.args.window.now) (i + 1) (pos 0) ≡ x = rw next refl in
    let is : Same p (pos c.sample_remainder.result) x = rw back at c.sample_remainder.ensures.same in
    let bound : unsigned_abs x ≤ 2 ^ 31 = rw back at c.sample_remainder.ensures.bound in
    record {
      remainders = each_more 0 (λ k v. v < 2 * g.row.P) c.samples.values (i + 1) c.sample_remainder.result lt c.sample_remainder.ensures.less c.samples.invariant.remainders;
      samples = below_more (λ k. unsigned_abs (get_or c.args.window.now k (pos 0)) ≤ 2 ^ 31) i c.samples.invariant.samples bound;
      same = each_more 0 (λ k v. Same p (pos v) (get_or (pos 0 ∷ c.args.window.now) k (pos 0))) c.samples.values (i + 1) c.sample_remainder.result lt (rw here is) c.samples.invariant.same;
    }

pub rest-preserved : goal.rest-preserved
rest-preserved g c =
    let p : ℤ = pos g.row.P in
    let i = c.rest.place in
    let lt : i < length c.rest.values = omega arith in
    let nothing : get_or (pos 0 ∷ c.args.window.now) i (pos 0) ≡ pos 0 = get_or_past (pos 0 ∷ c.args.window.now) i (pos 0) (omega arith) in
    record {
      remainders = each_more 0 (λ k v. v < 2 * g.row.P) c.rest.values i 0 lt (omega (arith, c.requires.modulus)) c.rest.invariant.remainders;
      same = each_more 0 (λ k v. Same p (pos v) (get_or (pos 0 ∷ c.args.window.now) k (pos 0))) c.rest.values i 0 lt (rw nothing (same_refl p (pos 0))) c.rest.invariant.same;
    }
