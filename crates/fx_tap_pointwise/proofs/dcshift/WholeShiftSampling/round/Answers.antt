use Rattle.std.proofs.Common.{rules, ◌≡◌, ◌∙◌, ◌-◌, ◌^◌, ◌-ℤ◌, ◌+ℤ◌, ◌*ℤ◌, ℤ, pos, neg_ℤ, ap, to_z, of_z, w32, FitsSigned, refl, not}
use Rattle.std.specs.Int.{int_max, int_min, saturate_signed}
use Rattle.std.proofs.lemmas.Int.{to_z-of_z}
use Rattle.fx_fixed.specs.Rounding.{clipping, is_sample, nearest}
use Rattle.fx_fixed.specs.declared.gains.TheConstants.{UNIT}
use Rattle.fx_tap_pointwise.specs.DcShift.{units_of}
use Rattle.fx_tap_pointwise.proofs.Limiting.{limited-fits, limited-sum, limited-test}
use Rattle.fx_tap_pointwise.proofs.Shifting.{added-steps}
use Rattle.fx_tap_pointwise.proofs.dcshift.WholeShiftSampling.round.Goals as goal

limited-is : (x steps low high below r : ℤ) → to_z w32 (of_z w32 x) ≡ x → to_z w32 (of_z w32 low) ≡ low → to_z w32 (of_z w32 high) ≡ high → to_z w32 (of_z w32 below) ≡ below
    → low ≡ neg_ℤ (pos (2 ^ 31)) -ℤ int_min steps (pos 0) → high ≡ pos (2 ^ 31 - 1) -ℤ int_max steps (pos 0)
    → below ≡ int_min (to_z w32 (of_z w32 x)) (to_z w32 (of_z w32 high)) → r ≡ int_max (to_z w32 (of_z w32 low)) (to_z w32 (of_z w32 below))
    → r ≡ int_max (neg_ℤ (pos (2 ^ 31)) -ℤ int_min steps (pos 0)) (int_min x (pos (2 ^ 31 - 1) -ℤ int_max steps (pos 0)))
limited-is x steps low high below r wx wl wh wb l h under over =
    over ∙ ap (λ z. int_max z (to_z w32 (of_z w32 below))) (wl ∙ l)
    ∙ ap (int_max (neg_ℤ (pos (2 ^ 31)) -ℤ int_min steps (pos 0))) (wb ∙ under ∙ ap (λ y. int_min y (to_z w32 (of_z w32 high))) wx ∙ ap (int_min x) (wh ∙ h))

pub overflow_add-result : goal.overflow_add-result
overflow_add-result c =
    let inv = c.self.invariant in
    let steps : ℤ = c.self.inside.steps in
    let x : to_z w32 (of_z w32 c.args.sample) ≡ c.args.sample = search rules in
    let a : to_z w32 (of_z w32 c.self.inside.minimum) ≡ c.self.inside.minimum = search rules in
    let b : to_z w32 (of_z w32 c.self.inside.maximum) ≡ c.self.inside.maximum = search rules in
    let m : to_z w32 (of_z w32 c.min.result) ≡ c.min.result = search rules in
    let s : to_z w32 (of_z w32 steps) ≡ steps = search rules in
    let r : to_z w32 (of_z w32 c.max-limited.result) ≡ c.max-limited.result = search rules in
    let f : FitsSigned w32 c.args.sample = search rules in
    let g : FitsSigned w32 steps = search rules in
    let is = limited-is c.args.sample steps c.self.inside.minimum c.self.inside.maximum c.min.result c.max-limited.result x a b m inv.1 inv.2 c.min.ensures.value c.max-limited.ensures.value in
    rw (r, s) (limited-fits c.args.sample steps c.max-limited.result f g is)

pub returns : goal.returns
returns c =
    let inv = c.self.invariant in
    let shift : ℤ = c.self.inside.shift in
    let steps : ℤ = c.self.inside.steps in
    let near : c.args.sample +ℤ steps ≡ nearest ((c.args.sample *ℤ pos UNIT) +ℤ units_of shift) UNIT =
    ap (λ z. c.args.sample +ℤ z) inv.0 ∙ added-steps shift c.args.sample in
    let minimum = inv.1 in
    let maximum = inv.2 in
    let x : to_z w32 (of_z w32 c.args.sample) ≡ c.args.sample = search rules in
    let a : to_z w32 (of_z w32 c.self.inside.minimum) ≡ c.self.inside.minimum = search rules in
    let b : to_z w32 (of_z w32 c.self.inside.maximum) ≡ c.self.inside.maximum = search rules in
    let s : to_z w32 (of_z w32 c.self.inside.steps) ≡ c.self.inside.steps = search rules in
    let m : to_z w32 (of_z w32 c.min.result) ≡ c.min.result = search rules in
    let r : to_z w32 (of_z w32 c.max-limited.result) ≡ c.max-limited.result = search rules in
    let is = limited-is c.args.sample steps c.self.inside.minimum c.self.inside.maximum c.min.result c.max-limited.result x a b m minimum maximum c.min.ensures.value c.max-limited.ensures.value in
    let f : FitsSigned w32 c.args.sample = search rules in
    let g : FitsSigned w32 steps = search rules in
    let sum : to_z w32 (of_z w32 (to_z w32 (of_z w32 c.max-limited.result) +ℤ to_z w32 (of_z w32 steps))) ≡ saturate_signed w32 (c.args.sample +ℤ steps) =
    ap (λ z. to_z w32 (of_z w32 (z +ℤ to_z w32 (of_z w32 steps)))) r ∙ ap (λ z. to_z w32 (of_z w32 (c.max-limited.result +ℤ z))) s ∙ to_z-of_z w32 (c.max-limited.result +ℤ steps) (limited-fits c.args.sample steps c.max-limited.result f g is) ∙ limited-sum c.args.sample steps c.max-limited.result f g is in
    let same = limited-test c.args.sample steps c.max-limited.result f g x r is (is_sample (c.args.sample +ℤ steps)) refl in
    rw (← c.self.view_is) ((λ i. (sum i, not (same i))) ∙ ap clipping near)
