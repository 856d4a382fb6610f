-- The coefficient file that an effect names.
use Rattle.std.proofs.Common.{◌≡◌, List, [], ◌∷◌, Bool, true, ◌&&◌, not, cond, codes, length, nat_eq, refl, ap, ◌∙◌, arith}
use Rattle.std.proofs.lemmas.Bool.Decides.{nat_tests}
use Rattle.std.specs.Str.{bytes_eq}
use Rattle.fx_plan.specs.CommandLines.{file_in}
use Rattle.fx_plan_words.specs.Faults.{Word}
use Rattle.fx_plan.specs.Names.{name_of}
use Rattle.fx_plan.specs.Plans.{is_file, is_fir, names_file}
use Rattle.fx_plan.proofs.Refusing.{both}

-- nothing stands after the word that names a file
one_word : (fir : Bool) (word : Word) (words : List Word) → (fir && is_file (word ∷ words)) ≡ true → words ≡ []
one_word fir word [] h = refl
one_word fir word (next ∷ more) h =
    let rest_unchanged = both fir (is_file (word ∷ next ∷ more)) h in
    let alone = both (nat_eq (length (next ∷ more)) 0) (not (bytes_eq word (codes "-"))) rest_unchanged.1 in
    let none : length (next ∷ more) ≡ 0 = grind (arith, nat_tests) in
    absurd (omega arith)

-- the file that an effect of these words names
pub file_in-one : (name word : Word) (words : List Word) → names_file (name ∷ word ∷ words) ≡ true → file_in (name ∷ word ∷ words) ≡ word ∷ []
file_in-one name word words h =
    ap (λ b. cond b (word ∷ words) []) h ∙ ap (λ more. word ∷ more) (one_word (is_fir (name_of name)) word words h)
