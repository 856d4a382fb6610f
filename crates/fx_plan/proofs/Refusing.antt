-- The first of all faults, and what the effects after one are.
use Rattle.std.proofs.Common.{◌≡◌, ℕ, ◌+◌, inl, inr, List, [], ◌∷◌, ◌++◌, map, Some, refl, ap, sym, ◌∙◌, ◌≤◌, arith, nat_lt, Bool, ◌&&◌, false, true}
use Rattle.std.proofs.lemmas.Bool.Decides.{nat_tests}
use Rattle.fx_plan_effects.specs.declared.effect.Layout.{Layout}
use Rattle.fx_plan_words.specs.declared.fault.Mark.{Mark}
use Rattle.fx_plan.specs.declared.fault.PlanFault.{PlanFault}
use Rattle.fx_plan_words.specs.declared.fault.WordsRefusal.{WordsRefusal}
use Rattle.fx_plan_words.specs.declared.fault.WordsRefusal.TheVariants as refusals
use Rattle.fx_plan_words.specs.Faults.{Word, RefusesWords, first_of}
use Rattle.fx_plan_effects.specs.Effects.{Act, all_fit, fits_layout, layout_after}
use Rattle.fx_plan.specs.Names.{effect_faults}
use Rattle.fx_plan.specs.Plans.{RefusesPlan, acts_of, at_effect, done, effects_faults, fault_of, files_after, last_layout, next_file, step_faults}

-- a refusal of an effect's words refuses the plan
pub refuses_effect : (number : ℕ) (r : WordsRefusal) (faults : List Mark) → RefusesWords r faults → RefusesPlan (fault_of number r) (map (at_effect number) faults)
refuses_effect number refusals.Memory faults h = inl refl
refuses_effect number (refusals.Marked m) [] h = cc
refuses_effect number (refusals.Marked m) (x ∷ xs) h = inr cc

-- a refusal by the faults in front is one by all
pub refuses_front : (f : PlanFault) (front back all : List PlanFault) → front ++ back ≡ all → RefusesPlan f front → RefusesPlan f all
refuses_front f front back all e (inl h) = inl h
refuses_front f [] back all e (inr h) = cc
refuses_front f (x ∷ xs) back all e (inr h) = inr (sym (ap first_of e) ∙ h)

-- the fault of the effect of a number
pub refuses_step : (number : ℕ) (layout : Layout) (file : List ℕ) (words : List Word) (r : WordsRefusal) → number ≤ 32 → RefusesWords r (effect_faults layout file words) → RefusesPlan (fault_of number r) (step_faults number layout file words)
refuses_step number layout file words r bound h =
    let within : nat_lt 32 number ≡ false = grind (arith, nat_tests) in
    rw within (refuses_effect number r (effect_faults layout file words) h)

-- a refusal of one effect in front of others
pub refuses_all : (f : PlanFault) (number : ℕ) (layout : Layout) (files : List (List ℕ)) (words : List Word) (effects : List (List Word)) (all : List PlanFault) →
    effects_faults number layout files (words ∷ effects) ≡ all → RefusesPlan f (step_faults number layout (next_file files) words) → RefusesPlan f all
refuses_all f number layout files words effects all e h =
    refuses_front f (step_faults number layout (next_file files) words) (effects_faults (number + 1) (layout_after layout (done layout files words)) (files_after words files) effects) all e h

-- after an effect without a fault: the faults, what is done, and the layout of those after it
pub faults_next : (number : ℕ) (layout next : Layout) (files left : List (List ℕ)) (words : List Word) (effects : List (List Word)) (e : Act) →
    step_faults number layout (next_file files) words ≡ [] → Some e ≡ done layout files words → next ≡ layout_after layout (Some e) → left ≡ files_after words files →
    effects_faults number layout files (words ∷ effects) ≡ effects_faults (number + 1) next left effects
faults_next number layout next files left words effects e none did next_is left_is =
    ap (λ faults. faults ++ effects_faults (number + 1) (layout_after layout (done layout files words)) (files_after words files) effects) none
    ∙ rw (next_is, left_is, sym did) refl

pub acts_next : (layout next : Layout) (files left : List (List ℕ)) (words : List Word) (effects : List (List Word)) (e : Act) →
    Some e ≡ done layout files words → next ≡ layout_after layout (Some e) → left ≡ files_after words files →
    acts_of layout files (words ∷ effects) ≡ e ∷ acts_of next left effects
acts_next layout next files left words effects e did next_is left_is = rw (next_is, left_is, sym did) refl

pub layout_next : (layout next : Layout) (files left : List (List ℕ)) (words : List Word) (effects : List (List Word)) (e : Act) →
    Some e ≡ done layout files words → next ≡ layout_after layout (Some e) → left ≡ files_after words files →
    last_layout layout files (words ∷ effects) ≡ last_layout next left effects
layout_next layout next files left words effects e did next_is left_is = rw (next_is, left_is, sym did) refl

-- both of two tests
pub both : (s t : Bool) → (s && t) ≡ true → (s ≡ true) × (t ≡ true)
both true t h = (refl, h)
both false t h = cc

-- the layout after effects
abbrev pub layout_after_effects : Layout → List Act → Layout
layout_after_effects layout [] = layout
layout_after_effects layout (a ∷ acts) = layout_after_effects (layout_after layout (Some a)) acts

-- one effect more
pub rest_unchanged-push : (layout : Layout) (acts : List Act) (a : Act) → layout_after_effects layout (acts ++ a ∷ []) ≡ layout_after (layout_after_effects layout acts) (Some a)
rest_unchanged-push layout [] a = refl
rest_unchanged-push layout (b ∷ acts) a = rest_unchanged-push (layout_after layout (Some b)) acts a

pub fit-push : (layout : Layout) (acts : List Act) (a : Act) → all_fit layout acts ≡ true → fits_layout (layout_after_effects layout acts) a ≡ true → all_fit layout (acts ++ a ∷ []) ≡ true
fit-push layout [] a h k = rw k refl
fit-push layout (b ∷ acts) a h k =
    let parts = both (fits_layout layout b) (all_fit (layout_after layout (Some b)) acts) h in
    rw (parts.0, fit-push (layout_after layout (Some b)) acts a parts.1 k) refl
