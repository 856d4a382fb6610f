-- What is said of the arguments of stages holds of a plan's effects.
use Rattle.std.proofs.Common.{◌≡◌, ℕ, ◌≤◌, ◌^◌, List, [], ◌∷◌, ◌++◌, true, map, drop, length, refl, arith, sym, ap, ◌∙◌, append_assoc, slice_index_or}
use Rattle.std.specs.List.{All}
use Rattle.std.proofs.lemmas.Bool.{and_parts}
use Rattle.std.proofs.lemmas.List.{map-append}
use Rattle.std.proofs.lemmas.List.Elements.{All-cons, All-head, All-nil, All-tail}
use Rattle.fx_chain_flow.specs.Frozen.{AllMade}
use Rattle.fx_frame_base.specs.Holds.{recipes}
use Rattle.fx_plan_effects.specs.Bounds.{hold_all}
use Rattle.fx_plan_effects.specs.Effects.{Act, Usable, channels_after}
use Rattle.fx_chain_stages.specs.declared.registry.EffectStage.{EffectStage}
use Rattle.fx_chain_stages.specs.declared.thaw.EffectArguments.{EffectArguments}
use Rattle.fx_plan_effects.specs.Meanings.{InPlace, Placed, recipe_at}
use Rattle.fx_chain_stages.specs.Stages.{effect_acts, recipe_of}
use Rattle.fx_chain_stages.specs.Made.{all_suit, placed_in, recipes_for, suits}
use Rattle.fx_chain_stages.specs.Thawed.{FitsEffect, fits_stage, placing, recipe_with}
use Rattle.fx_chain_stages.proofs.Making.{hold-tail}
use Rattle.fx_chain_stages.proofs.Planned.{planned}

-- arguments after others
pub placed-more : (xs : List EffectArguments) (x : EffectArguments) (channels : ℕ) (a : Act) (acts : List Act) (all : List Placed)
    → placing x ≡ InPlace channels a
    → map placing xs ++ placed_in channels (a ∷ acts) ≡ all
    → map placing (xs ++ x ∷ []) ++ placed_in (channels_after channels a) acts ≡ all
placed-more xs x channels a acts all is h =
    let one : map placing (xs ++ x ∷ []) ≡ map placing xs ++ placing x ∷ [] = map-append placing xs (x ∷ []) in
    rw (one, append_assoc (map placing xs) (placing x ∷ []) (placed_in (channels_after channels a) acts), is) h

recipes-placing : (xs : List EffectArguments) → map recipe_at (map placing xs) ≡ map recipe_with xs
recipes-placing [] = refl
recipes-placing (x ∷ xs) = ap (λ (rs : List Placed). recipe_with x ∷ rs) (recipes-placing xs)

-- the stages of effects are those of the effects with their channels
pub recipes-with : (xs : List EffectArguments) (channels : ℕ) (acts : List Act) → map placing xs ≡ placed_in channels acts → map recipe_with xs ≡ recipes_for channels acts
recipes-with xs channels acts h = sym (recipes-placing xs) ∙ ap (map recipe_at) h

pub recipes-made : (xs : List EffectArguments) (stages : List EffectStage) → AllMade (λ a s. recipe_of s ≡ recipe_with a) xs stages → recipes effect_acts stages ≡ map recipe_with xs
recipes-made [] [] h = refl
recipes-made (x ∷ xs) (s ∷ stages) h = rw (h.0, recipes-made xs stages h.1) refl
recipes-made [] (s ∷ stages) h = absurd h
recipes-made (x ∷ xs) [] h = absurd h

pub made-recipes : (xs : List EffectArguments) (stages : List EffectStage) → recipes effect_acts stages ≡ map recipe_with xs → AllMade (λ a s. recipe_of s ≡ recipe_with a) xs stages
made-recipes [] [] h = tt
made-recipes (x ∷ xs) (s ∷ stages) h = (ap (λ (rs : List Placed). slice_index_or rs 0 (recipe_of s)) h, made-recipes xs stages (ap (λ (rs : List Placed). drop 1 rs) h))
made-recipes [] (s ∷ stages) h = let e = ap length h in absurd (omega (arith, e))
made-recipes (x ∷ xs) [] h = let e = ap length h in absurd (omega (arith, e))

-- a plan's effects can be made stages of
abbrev FitsAt : Placed → Type 0
FitsAt (InPlace channels a) = FitsEffect channels a

fits-placed : (channels : ℕ) (acts : List Act) → 1 ≤ channels → channels ≤ 16 → All Usable acts → all_suit channels acts ≡ true → hold_all acts ≤ 2 ^ 28
    → All FitsAt (placed_in channels acts)
fits-placed channels [] some bound usable suit hold = All-nil FitsAt
fits-placed channels (a ∷ acts) some bound usable suit hold =
    let parts = and_parts (suits channels a) (all_suit (channels_after channels a) acts) suit in
    let held = hold-tail a acts (2 ^ 28) hold in
    let here = All-head Usable a acts usable in
    All-cons FitsAt (InPlace channels a) (placed_in (channels_after channels a) acts)
    (record { some = some; bound = bound; usable = here; suits = parts.0; line = held.0 })
    (fits-placed (channels_after channels a) acts ((planned channels a).some here some) ((planned channels a).bound here bound) (All-tail Usable a acts usable) parts.1 held.1)

fits-placing : (xs : List EffectArguments) → All FitsAt (map placing xs) → All fits_stage xs
fits-placing [] h = All-nil fits_stage
fits-placing (x ∷ xs) h =
    All-cons fits_stage x xs (All-head FitsAt (placing x) (map placing xs) h)
    (fits-placing xs (All-tail FitsAt (placing x) (map placing xs) h))

pub fits-with : (xs : List EffectArguments) (channels : ℕ) (acts : List Act) → map placing xs ≡ placed_in channels acts
    → 1 ≤ channels → channels ≤ 16 → All Usable acts → all_suit channels acts ≡ true → hold_all acts ≤ 2 ^ 28 → All fits_stage xs
fits-with xs channels acts h some bound usable suit hold = fits-placing xs (rw h (fits-placed channels acts some bound usable suit hold))
