-- What a derived `==` of two enums says: where it is exact at each variant, it is exact.
use Rattle.std.proofs.Common.{◌≡◌, ℕ, ◌+◌, suc, Bool, false, List, [], ◌∷◌, sym, ap, ◌∙◌, true≢false, arith}
use Rattle.std.specs.Bool.{Decides}
use mathlib.Core.Logic.{inl, inr}
use denote.Struct.Field.{Field}
use denote.Struct.Values.{Values}
use denote.Enum.Declared.{Choice, Record}
use denote.Enum.Compared.{Each, by}

-- the place of a variant
abbrev pub place : (Fss : List (List Field)) → Choice Fss → ℕ
place [] c = absurd c
place (Fs ∷ Fss) (inl x) = 0
place (Fs ∷ Fss) (inr c) = suc (place Fss c)

-- at each variant two values are found equal exactly where f is the same
abbrev pub Exact : {A : Type 0} → (Fss : List (List Field)) → Each Bool Fss → (Choice Fss → A) → Type 0
Exact [] each f = Unit {0}
Exact (Fs ∷ Fss) each f = ((x y : Values Fs) → Decides (each.0 x y) (f (inl x) ≡ f (inl y))) × Exact Fss each.1 (λ c. f (inr c))

exact : {A : Type 0} (tag : A → ℕ) (n : ℕ) (Fss : List (List Field)) (each : Each Bool Fss) (f : Choice Fss → A) → ((c : Choice Fss) → tag (f c) ≡ n + place Fss c) → Exact Fss each f → (c d : Choice Fss) → Decides (by false false Fss each c d) (f c ≡ f d)
exact tag n [] each f tagged all c d = absurd c
exact tag n (Fs ∷ Fss) each f tagged all (inl x) (inl y) = all.0 x y
exact tag n (Fs ∷ Fss) each f tagged all (inl x) (inr d) =
    (λ e. absurd (true≢false (sym e)), λ e. let here = ap tag e in let first = tagged (inl x) in let second = tagged (inr d) in absurd (omega arith))
exact tag n (Fs ∷ Fss) each f tagged all (inr c) (inl y) =
    (λ e. absurd (true≢false (sym e)), λ e. let here = ap tag e in let first = tagged (inr c) in let second = tagged (inl y) in absurd (omega arith))
exact tag n (Fs ∷ Fss) each f tagged all (inr c) (inr d) =
    exact tag (suc n) Fss each.1 (λ c. f (inr c)) (λ c. let first = tagged (inr c) in omega arith) all.1 c d

-- what holds at a variant, in front of what holds at those after it
infixr 3 ◌&◌
abbrev pub ◌&◌ : {A B : Type 0} → A → B → A × B
a & b = (a, b)

-- the values of an enum
pub exact_values : (N : Record) (each : Each Bool N.parts) → Exact N.parts each N.make → (a b : N.D) → Decides (by false false N.parts each (N.as_values a) (N.as_values b)) (a ≡ b)
exact_values N each all a b =
    let delivered = exact (λ d. place N.parts (N.as_values d)) 0 N.parts each N.make (λ c. let same = ap (place N.parts) (N.beta c) in omega arith) all (N.as_values a) (N.as_values b) in
    (λ e. sym (N.eta a) ∙ delivered.0 e ∙ N.eta b, λ e. delivered.1 (N.eta a ∙ e ∙ sym (N.eta b)))

-- what a function tells of the values of an enum, where it tells the variant
pub exact_stated : {A : Type 0} (N : Record) (tell : N.D → A) (tag : A → ℕ) → ((d : N.D) → tag (tell d) ≡ place N.parts (N.as_values d)) → (each : Each Bool N.parts) → Exact N.parts each (λ c. tell (N.make c)) → (a b : N.D) → Decides (by false false N.parts each (N.as_values a) (N.as_values b)) (tell a ≡ tell b)
exact_stated N tell tag tagged each all a b =
    let delivered = exact tag 0 N.parts each (λ c. tell (N.make c)) (λ c. let same = tagged (N.make c) ∙ ap (place N.parts) (N.beta c) in omega arith) all (N.as_values a) (N.as_values b) in
    (λ e. sym (ap tell (N.eta a)) ∙ delivered.0 e ∙ ap tell (N.eta b), λ e. delivered.1 (ap tell (N.eta a) ∙ e ∙ sym (ap tell (N.eta b))))
