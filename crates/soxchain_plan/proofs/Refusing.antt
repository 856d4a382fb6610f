-- The beginnings of words that are refused for an option.
use Rattle.std.proofs.Common.{◌≡◌, ◌≢◌, ◌≤◌, ◌<◌, ◌+◌, ◌⊎◌, inl, inr, ℕ, List, Err, length, take, sym, arith, subst, String, string_bytes}
use Rattle.std.proofs.Math.Nat.{eq-or-lt_of_le}
use Rattle.std.proofs.lemmas.List.{length-map, take-map}
use Rattle.fx_plan.specs.declared.line.LineFault.TheVariants.{BadOption}
use Rattle.fx_plan.specs.Line.{line_of_words, texts}
use Rattle.soxchain_plan.specs.Options.{IsRefusedAt}

-- the beginning of words as bytes
texts-taken : {Z : Type 0} (n : ℕ) (words : List (String Z)) → texts (take n words) ≡ take n (texts words)
texts-taken n words = sym (take-map string_bytes n words)

-- a beginning is refused that is this one, or longer
refused-from : (words : List (List ℕ)) (shorter count : ℕ) → (shorter ≡ count) ⊎ (shorter < count) → line_of_words (take shorter words) ≡ Err BadOption
    → (shorter < count → line_of_words (take count words) ≡ Err BadOption) → line_of_words (take count words) ≡ Err BadOption
refused-from words shorter count (inl same) e longer = subst (λ n. line_of_words (take n words) ≡ Err BadOption) same e
refused-from words shorter count (inr more) e longer = longer more

-- and so is a shorter beginning
pub shorter-refused : {Z : Type 0} (words : List (String Z)) (place shorter : ℕ) → place ≡ shorter + 1 → line_of_words (texts (take shorter words)) ≡ Err BadOption
    → ((count : ℕ) → place ≤ count → line_of_words (take count (texts words)) ≡ Err BadOption)
    → (count : ℕ) → shorter ≤ count → line_of_words (take count (texts words)) ≡ Err BadOption
shorter-refused words place shorter next e refused count h =
    refused-from (texts words) shorter count (eq-or-lt_of_le h) (rw (take-map string_bytes shorter words) e) (λ more. refused count (omega (arith, more, next)))

-- where a shorter beginning is not, its last word and one more are the refused one
pub refused-there : {Z : Type 0} (words : List (String Z)) (place shorter : ℕ) → place ≡ shorter + 1 → shorter < length words → line_of_words (texts (take shorter words)) ≢ Err BadOption
    → ((count : ℕ) → place ≤ count → line_of_words (take count (texts words)) ≡ Err BadOption)
    → IsRefusedAt (texts words) shorter
refused-there words place shorter next there other refused = record {
  there = omega (arith, length-map words string_bytes, there);
  before = λ e. other (rw (texts-taken shorter words) e);
  longer = λ count more. refused count (omega (arith, more, next));
}
