-- What one effect of several holds.
use Rattle.std.proofs.Common.{◌≡◌, ℕ, ◌+◌, ◌<◌, ◌≤◌, List, length, get_or, map, Some, refl, sym, ap, ◌∙◌, arith, slice_get}
use Rattle.std.specs.Option.{option_map}
use Rattle.std.proofs.lemmas.Option.{slice_get-map, slice_get_read}
use Rattle.std.proofs.lemmas.List.Sums.{get_or-le-sum_by}
use Rattle.std.proofs.lemmas.List.{length-map, get_or-map}
use Rattle.fx_plan_effects.specs.declared.registry.Effect.{Effect}
use Rattle.fx_plan_effects.specs.Effects.{Act, act}
use Rattle.fx_plan_effects.specs.Meanings.{line_of_act}
use Rattle.fx_plan_effects.specs.Bounds.{hold_all, hold_of_act}

pub stated_at : {X : Type 0} (f : Act → X) (es : List Effect) (i : ℕ) (e : Effect) → i < length es → e ≡ get_or es i e → slice_get (map f (map act es)) i ≡ Some (f (act e))
stated_at f es i e within is =
    slice_get-map f (map act es) i ∙ ap (option_map f) (slice_get-map act es i ∙ ap (option_map act) (slice_get_read es (length es) i e refl within is))

pub hold_part : (es : List Effect) (i : ℕ) (e : Effect) → i < length es → e ≡ get_or es i e → line_of_act (act e) + 1 ≤ hold_all (map act es)
hold_part es i e within is =
    let same : get_or (map act es) i (act e) ≡ act e = get_or-map act es i e (act e) within ∙ ap act (sym is) in
    let part = get_or-le-sum_by hold_of_act (map act es) i (act e) (rw length-map within) in
    let bound = rw same at part in
    omega (arith, bound)
