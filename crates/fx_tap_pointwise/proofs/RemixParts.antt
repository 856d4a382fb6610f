-- Texts in parts.
use Rattle.std.proofs.Common.{Ok, ◌≡◌, ℕ, suc, ◌+◌, ◌<◌, List, [], ◌∷◌, ◌++◌, Bool, true, false, not, cond, length, ap, sym, refl, arith, length-drop, add-one}
use Rattle.std.specs.List.{slice_split, position_or_len, before_first, after_first, onto_first}
use Rattle.std.proofs.lemmas.List.Splits.{slice_split_first}
use Rattle.fx_tap_pointwise.specs.RemixWords.{contributions, is_comma, part_faults}
use Rattle.fx_plan_words.specs.Faults.{Word}
use Rattle.fx_tap_pointwise.specs.InSpecs.{channels_from, in_spec}
use Rattle.fx_tap_pointwise.specs.declared.remix.words.in_spec.InSpec.{InSpec}

-- a text without a comma is one part
pub one_part : (text : List ℕ) → position_or_len is_comma text ≡ length text → slice_split is_comma text ≡ text ∷ []
one_part [] h = refl
one_part (c ∷ cs) h = let P : Bool → Type 0 = λ b. cond (not b) (1 + position_or_len is_comma cs) 0 ≡ suc (length cs) → cond b ([] ∷ slice_split is_comma cs) (onto_first c (slice_split is_comma cs)) ≡ (c ∷ cs) ∷ [] in
    let cases : (b : Bool) → P b = λ b. elim b as P [ true ↦ λ e. absurd (omega (arith, add-one)) | false ↦ λ e. ap (onto_first c) (one_part cs (omega arith)) ] in
    cases (is_comma c) h

pub first_part : (text : List ℕ) → position_or_len is_comma text < length text → slice_split is_comma text ≡ before_first is_comma text ∷ slice_split is_comma (after_first is_comma text)
first_part text h = slice_split_first is_comma text 0 h

pub after_shorter : (text : List ℕ) → position_or_len is_comma text < length text → length (after_first is_comma text) < length text
after_shorter text h = rw length-drop (omega arith)

pub ruleset comma_parts = (one_part, first_part, after_shorter)

-- a part without a fault adds its channels
pub part_faults-step : (channels number : ℕ) (part : Word) (parts : List Word) (found : InSpec) → Ok found ≡ in_spec channels part → part_faults channels number (part ∷ parts) ≡ part_faults channels number parts
part_faults-step channels number part parts found h = rw (sym h) refl

pub contributions-step : (channels : ℕ) (part : Word) (parts : List Word) (found : InSpec) → Ok found ≡ in_spec channels part → contributions channels (part ∷ parts) ≡ channels_from found ++ contributions channels parts
contributions-step channels part parts found h = rw (sym h) refl
