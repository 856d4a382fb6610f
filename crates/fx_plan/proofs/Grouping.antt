-- Effects by their first name.
use Rattle.std.proofs.Common.{◌≡◌, ℕ, suc, ◌+◌, List, [], ◌∷◌, Bool, true, false, not, cond, take, drop, ap, ◌∙◌, refl, arith, add-one}
use Rattle.std.specs.List.{position_or_len}
use Rattle.fx_plan_words.specs.Faults.{Word}
use Rattle.fx_plan.specs.Names.{is_name}
use Rattle.fx_plan.specs.Groups.{Groups, groups_of, effects_of}

-- the words before the first name, and the effects from it on
abbrev pub cut_at : ℕ → List Word → Groups
cut_at k words = (take k words, effects_of (drop k words))

pub groups_cut : (words : List Word) → groups_of words ≡ cut_at (position_or_len is_name words) words
groups_cut [] = refl
groups_cut (word ∷ words) =
    let k = position_or_len is_name words in
    let next : suc k ≡ 1 + k = omega (arith, add-one) in
    let grow : Groups → Groups = λ groups. (word ∷ groups.0, groups.1) in
    let P : Bool → Type 0 = λ b. cond b ([], (word ∷ (groups_of words).0) ∷ (groups_of words).1) (word ∷ (groups_of words).0, (groups_of words).1) ≡ cut_at (cond (not b) (1 + position_or_len is_name words) 0) (word ∷ words) in
    let cases : (b : Bool) → P b = λ b. elim b as P [ true ↦ refl | false ↦ ap grow (groups_cut words) ∙ ap (λ m. cut_at m (word ∷ words)) next ] in
    cases (is_name word)

-- the first effect and those after it
pub effects_cut : (name : Word) (words : List Word) (k : ℕ) → k ≡ position_or_len is_name words → effects_of (name ∷ words) ≡ (name ∷ take k words) ∷ effects_of (drop k words)
effects_cut name words k e = rw e (ap (λ groups. (name ∷ groups.0) ∷ groups.1) (groups_cut words))
