-- Where a list is cut: one element more, and a run of which none passes.
use Rattle.std.proofs.Common.{◌≡◌, ℕ, Bool, true, false, List, [], ◌∷◌, ◌++◌, ap, ◌∙◌, sym, refl, one-add, add-one}
use Rattle.std.specs.List.{after_first, before_first, list_any, onto_first, slice_split}
use Rattle.std.proofs.lemmas.Bool.{false≢true}
use Rattle.std.proofs.lemmas.List.Splits.{slice_split-cons_no, slice_split-cons_yes}

-- ---- cuts of a list that begins with one more

pub before_first-no : (p : ℕ → Bool) (c : ℕ) (cs : List ℕ) → p c ≡ false → before_first p (c ∷ cs) ≡ c ∷ before_first p cs
before_first-no p c cs fails = rw (fails, one-add) refl

pub before_first-yes : (p : ℕ → Bool) (c : ℕ) (cs : List ℕ) → p c ≡ true → before_first p (c ∷ cs) ≡ []
before_first-yes p c cs passes = rw passes refl

pub after_first-no : (p : ℕ → Bool) (c : ℕ) (cs : List ℕ) → p c ≡ false → after_first p (c ∷ cs) ≡ after_first p cs
after_first-no p c cs fails = rw (fails, one-add, add-one, add-one) refl

pub after_first-yes : (p : ℕ → Bool) (c : ℕ) (cs : List ℕ) → p c ≡ true → after_first p (c ∷ cs) ≡ cs
after_first-yes p c cs passes = rw passes refl

-- ---- the first part of a list

-- there is a first part
pub first_part : (p : ℕ → Bool) (rest : List ℕ) → (part : List ℕ) × (parts : List (List ℕ)) × (slice_split p rest ≡ part ∷ parts)
first_part p [] = ([], [], refl)
first_part p (c ∷ cs) = go (p c) refl (first_part p cs) where
  go : (b : Bool) → p c ≡ b → (part : List ℕ) × (parts : List (List ℕ)) × (slice_split p cs ≡ part ∷ parts) → (part : List ℕ) × (parts : List (List ℕ)) × (slice_split p (c ∷ cs) ≡ part ∷ parts)
  go true passes rest = ([], slice_split p cs, slice_split-cons_yes p c cs passes)
  go false fails rest = (c ∷ rest.0, rest.1, slice_split-cons_no p c cs fails ∙ ap (λ xs. onto_first c xs) rest.2)

-- one byte more in the first part
pub split_more : (p : ℕ → Bool) (c : ℕ) (cs part : List ℕ) (parts : List (List ℕ)) → p c ≡ false → slice_split p cs ≡ part ∷ parts → slice_split p (c ∷ cs) ≡ (c ∷ part) ∷ parts
split_more p c cs part parts fails cut = slice_split-cons_no p c cs fails ∙ ap (λ xs. onto_first c xs) cut

pub none_here : (p : ℕ → Bool) (c : ℕ) (cs : List ℕ) → list_any p (c ∷ cs) ≡ false → (p c ≡ false) × (list_any p cs ≡ false)
none_here p c cs none = go (p c) refl where
  go : (b : Bool) → p c ≡ b → (p c ≡ false) × (list_any p cs ≡ false)
  go true passes = absurd (false≢true (sym (rw passes at none)))
  go false fails = (fails, rw fails at none)

-- a run of which nothing passes stays in the first part
pub split_run : (p : ℕ → Bool) (run rest part : List ℕ) (parts : List (List ℕ)) → list_any p run ≡ false → slice_split p rest ≡ part ∷ parts → slice_split p (run ++ rest) ≡ (run ++ part) ∷ parts
split_run p [] rest part parts none cut = cut
split_run p (c ∷ cs) rest part parts none cut =
    let fails = none_here p c cs none in
    split_more p c (cs ++ rest) (cs ++ part) parts fails.0 (split_run p cs rest part parts fails.1 cut)

pub before_run : (p : ℕ → Bool) (run rest : List ℕ) → list_any p run ≡ false → before_first p (run ++ rest) ≡ run ++ before_first p rest
before_run p [] rest none = refl
before_run p (c ∷ cs) rest none =
    let fails = none_here p c cs none in
    before_first-no p c (cs ++ rest) fails.0 ∙ ap (λ xs. c ∷ xs) (before_run p cs rest fails.1)

pub after_run : (p : ℕ → Bool) (run rest : List ℕ) → list_any p run ≡ false → after_first p (run ++ rest) ≡ after_first p rest
after_run p [] rest none = refl
after_run p (c ∷ cs) rest none =
    let fails = none_here p c cs none in
    after_first-no p c (cs ++ rest) fails.0 ∙ after_run p cs rest fails.1

-- where nothing passes, nothing comes after
pub after_first-none : (p : ℕ → Bool) (xs : List ℕ) → list_any p xs ≡ false → after_first p xs ≡ []
after_first-none p [] none = refl
after_first-none p (c ∷ cs) none =
    let fails = none_here p c cs none in
    after_first-no p c cs fails.0 ∙ after_first-none p cs fails.1
