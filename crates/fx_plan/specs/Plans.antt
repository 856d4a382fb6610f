-- The plan that the effects' words make after a head, or the first of all its faults (this project's profile).
use Rattle.std.specs.Prelude.{ℕ, ◌+◌, ◌≡◌, ◌^◌, ◌⊎◌, nat_lt, nat_eq, Bool, true, false, not, ◌&&◌, if◌then◌else◌, List, [], ◌∷◌, ◌++◌, codes, length, map, drop, Vec, Option, Some, None, Result, Ok, Err}
use Rattle.std.specs.Str.{bytes_eq}
use Rattle.fx_plan_effects.specs.declared.effect.Layout.{Layout}
use Rattle.fx_sound.specs.declared.head.Head.{Head}
use Rattle.fx_plan_words.specs.declared.fault.Mark.{Mark}
use Rattle.fx_plan_words.specs.declared.fault.PlanCause.{PlanCause}
use Rattle.fx_plan_words.specs.declared.fault.PlanCause.TheVariants.{TooManyEffects, HoldTooLarge, TooLong, Memory}
use Rattle.fx_plan.specs.declared.fault.PlanFault.{PlanFault}
use Rattle.fx_plan_words.specs.declared.fault.WordsRefusal.{WordsRefusal}
use Rattle.fx_plan_words.specs.declared.fault.WordsRefusal.TheVariants as refusals
use Rattle.fx_plan.specs.declared.registry.Name.{Name}
use Rattle.fx_plan.specs.declared.registry.Name.TheVariants as names
use Rattle.fx_plan.specs.declared.planned.Planned.{Planned}
use Rattle.fx_plan_words.specs.Faults.{Word, when, first_of}
use Rattle.fx_plan_effects.specs.Effects.{Act, act, layout_after}
use Rattle.fx_plan.specs.Names.{effect_act, effect_faults, name_of}
use Rattle.fx_plan_effects.specs.Bounds.{hold_all, is_too_long}

-- the layout of the input
abbrev pub head_layout : Head → Layout
head_layout head = record { rate = head.rate; channels = head.channels }

abbrev pub fault : PlanCause → ℕ → ℕ → PlanFault
fault cause effect word = record { cause = cause; effect = effect; word = word }

abbrev pub at_effect : ℕ → Mark → PlanFault
at_effect number m = fault m.cause number m.word

-- `fir` with a single word, which is not `-`, names a coefficient file
abbrev pub is_fir : Name → Bool
is_fir names.Fir = true
is_fir _ = false

abbrev pub is_file : List Word → Bool
is_file [] = false
is_file (word ∷ more) = nat_eq (length more) 0 && not (bytes_eq word (codes "-"))

abbrev pub names_file : List Word → Bool
names_file [] = false
names_file (name ∷ words) = is_fir (name_of name) && is_file words

-- the file of the next effect that names one, and those of the effects after an effect
abbrev pub next_file : List (List ℕ) → List ℕ
next_file [] = []
next_file (file ∷ files) = file

abbrev pub files_after : List Word → List (List ℕ) → List (List ℕ)
files_after words files = if names_file words then drop 1 files else files

-- what an effect does after this layout
abbrev pub done : Layout → List (List ℕ) → List Word → Option Act
done layout files words = effect_act layout (next_file files) words

-- the faults of the effect of this number
abbrev pub step_faults : ℕ → Layout → List ℕ → List Word → List PlanFault
step_faults number layout file words =
    when (nat_lt 32 number) (fault TooManyEffects number 1) ++ map (at_effect number) (effect_faults layout file words)

-- the faults of the effects from this number on, each after the layout that those before it produce
abbrev pub effects_faults : ℕ → Layout → List (List ℕ) → List (List Word) → List PlanFault
effects_faults number layout files [] = []
effects_faults number layout files (words ∷ effects) =
    step_faults number layout (next_file files) words
    ++ effects_faults (number + 1) (layout_after layout (done layout files words)) (files_after words files) effects

-- an effect before others, where there is one
abbrev pub in_front : Option Act → List Act → List Act
in_front None acts = acts
in_front (Some act) acts = act ∷ acts

-- what the effects do
abbrev pub acts_of : Layout → List (List ℕ) → List (List Word) → List Act
acts_of layout files [] = []
acts_of layout files (words ∷ effects) =
    in_front (done layout files words) (acts_of (layout_after layout (done layout files words)) (files_after words files) effects)

-- the layout after all effects
abbrev pub last_layout : Layout → List (List ℕ) → List (List Word) → Layout
last_layout layout files [] = layout
last_layout layout files (words ∷ effects) = last_layout (layout_after layout (done layout files words)) (files_after words files) effects

-- faults of the effects together
abbrev pub end_faults : List Act → List PlanFault
end_faults acts =
    when (nat_lt (2 ^ 28) (hold_all acts)) (fault HoldTooLarge 0 0)
    ++ when (is_too_long acts) (fault TooLong 0 0)

-- all faults of a plan, in the order in which they are to be found
abbrev pub all_faults : Layout → List (List ℕ) → List (List Word) → List PlanFault
all_faults layout files effects = effects_faults 1 layout files effects ++ end_faults (acts_of layout files effects)

-- coefficient files as bytes
abbrev pub plan_bytes : {Z : Type 0} → List (Vec ℕ Z) → List (List ℕ)
plan_bytes files = map (λ file. file.items) files

-- effects as what they do, and the layout after them
abbrev pub planned_value : Planned → List Act × Layout
planned_value planned = (map act planned.effects.items, planned.layout)

-- lack of memory
abbrev pub no_memory : PlanFault
no_memory = fault Memory 0 0

-- the fault of an effect that its words do not give
abbrev pub fault_of : ℕ → WordsRefusal → PlanFault
fault_of number refusals.Memory = no_memory
fault_of number (refusals.Marked m) = at_effect number m

-- a refusal of a plan with these faults: the first of them, or lack of memory
abbrev pub RefusesPlan : PlanFault → List PlanFault → Type 0
RefusesPlan f faults = (f ≡ no_memory) ⊎ (first_of faults ≡ Some f)

-- the result for a plan with these faults: this value where there is none
abbrev pub PlanReads : {X Y : Type 0} → (X → Y) → Result X PlanFault → List PlanFault → Y → Type 0
PlanReads view (Ok plan) faults value = (faults ≡ []) × (view plan ≡ value)
PlanReads view (Err f) faults value = RefusesPlan f faults
