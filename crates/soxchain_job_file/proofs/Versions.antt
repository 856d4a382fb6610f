-- Which version bytes are of.
use Rattle.std.proofs.Common.{◌≡◌, ◌≢◌, ◌==◌, ℕ, zero, suc, ◌+◌, ◌^◌, ◌<◌, ◌≤◌, ◌⊎◌, ◌↔◌, inl, inr, Bool, true, cond, ltb, List, [], ◌∷◌, ◌++◌, length, get_or, take, drop, Option, Some, None, MatchOption, refl, ap, sym, subst, ◌∙◌, ⊎_elim, arith, length-append}
use Rattle.std.proofs.lemmas.List.{take_at, drop_at, length-take, get_or-take, get_or_append_left, get_or_push, get_or_past, get_or-drop, take-take, take-append-drop, take_more, length-drop, length-take-le}
use Rattle.std.proofs.lemmas.List.Quantifiers.{position-Some}
use Rattle.std.proofs.lemmas.List.Sums.{position_or_len_is}
use Rattle.std.proofs.lemmas.Bool.{cases_eq, cases_lt, lt-ltb, eqb-true}
use Rattle.std.proofs.lemmas.Bool.Decides.{nat_tests}
use Rattle.std.proofs.lemmas.Str.Parse.{digit_at, without_leading_plus_none, without_leading_plus_plus}
use Rattle.std.specs.Int.{IsInRange}
use Rattle.std.specs.Io.{StartsWith}
use Rattle.std.specs.List.{position, position_or_len}
use Rattle.std.specs.Str.{IsAscii}
use Rattle.std.specs.Str.Parse.{AllDigits, digits_value, without_leading_plus}
use Rattle.soxchain_job_file.specs.JobBytes.{first_line}
use Rattle.soxchain_job_file.specs.Versions.{BeginsWithNumeral, IsForeign, IsNumeralOf, IsOtherVersion, json_start, text_start}

-- ---- numerals

-- a byte of a numeral is its sign or a digit
numeral_byte : (digits : List ℕ) (number : ℕ) → IsNumeralOf digits number → (k : ℕ) → k < length digits
    → (get_or digits k 0 ≡ 43) ⊎ IsInRange 48 57 (get_or digits k 0)
numeral_byte digits number numeral k within =
    ⊎_elim (λ plus. signed plus k within) (λ none. unsigned none) (cases_eq (get_or digits 0 0) 43)
  where
    unsigned : (get_or digits 0 0 ≡ 43 → ⊥) → (get_or digits k 0 ≡ 43) ⊎ IsInRange 48 57 (get_or digits k 0)
    unsigned none = inr (digit_at digits k (subst (AllDigits 10) (without_leading_plus_none digits none) numeral.0.1) within)

    signed : get_or digits 0 0 ≡ 43 → (i : ℕ) → i < length digits → (get_or digits i 0 ≡ 43) ⊎ IsInRange 48 57 (get_or digits i 0)
    signed plus zero inside = inl plus
    signed plus (suc i) inside =
        let rest : AllDigits 10 (drop 1 digits) = subst (AllDigits 10) (without_leading_plus_plus digits plus) numeral.0.1 in
        let at : get_or (drop 1 digits) i 0 ≡ get_or digits (suc i) 0 = get_or-drop 1 digits i 0 ∙ ap (λ n. get_or digits n 0) (let e : 1 + i ≡ suc i = omega arith in e) in
        inr (subst (IsInRange 48 57) at (digit_at (drop 1 digits) i rest (omega (arith, length-drop 1 digits))))

-- a numeral is ASCII
pub numeral_ascii : (digits : List ℕ) (number : ℕ) → IsNumeralOf digits number → IsAscii digits
numeral_ascii digits number numeral i =
    ⊎_elim (λ h. ⊎_elim (λ p. let x : get_or digits i 0 < 128 = omega (arith, p) in x) (λ r. let x : get_or digits i 0 < 128 = omega (arith, r.1) in x) (numeral_byte digits number numeral i h))
    (λ h. let none = get_or_past digits i 0 h in let x : get_or digits i 0 < 128 = omega (arith, none) in x) (cases_lt i (length digits))

-- the byte that ends a numeral is not in it
numeral_lacks : (digits : List ℕ) (number end : ℕ) → end < 48 → end ≢ 43 → IsNumeralOf digits number → (k : ℕ) → k < length digits → get_or digits k 0 ≢ end
numeral_lacks digits number end low sign numeral k within same =
    ⊎_elim (λ p. sign (sym same ∙ p)) (λ r. absurd (omega (arith, r.0, same))) (numeral_byte digits number numeral k within)

-- ---- where a numeral ends

abbrev is_end : ℕ → ℕ → Bool
is_end end byte = byte == end

module _ (bytes digits : List ℕ) (number end : ℕ) (low : end < 48) (sign : end ≢ 43) (start : StartsWith bytes (digits ++ end ∷ [])) (numeral : IsNumeralOf digits number) where
  size_is : length (digits ++ end ∷ []) ≡ length digits + 1
  size_is = length-append digits (end ∷ [])

  pub numeral_within : length digits < length bytes
  numeral_within = omega (arith, size_is, ap length start, length-take (length (digits ++ end ∷ [])) bytes)

  byte_is : (k : ℕ) → k ≤ length digits → get_or bytes k 0 ≡ get_or (digits ++ end ∷ []) k 0
  byte_is k h = sym (get_or-take (length (digits ++ end ∷ [])) bytes k 0 (omega (arith, size_is))) ∙ ap (λ xs. get_or xs k 0) start

  pub numeral_place : position_or_len (is_end end) bytes ≡ length digits
  numeral_place =
      position_or_len_is (is_end end) bytes (length digits) 0 (omega (arith, numeral_within))
      (λ k h. let other : get_or bytes k 0 ≢ end = λ same. numeral_lacks digits number end low sign numeral k h (sym (get_or_append_left digits (end ∷ []) 0 k h) ∙ sym (byte_is k (omega arith)) ∙ same) in
      grind (arith, nat_tests))
      (λ h. let here : get_or bytes (length digits) 0 ≡ end = byte_is (length digits) (omega arith) ∙ get_or_push digits end 0 (length digits) refl in grind (arith, nat_tests))

  pub numeral_front : take (length digits) bytes ≡ digits
  numeral_front =
      sym (take-take (length digits) (length (digits ++ end ∷ [])) bytes (omega (arith, size_is))) ∙ ap (take (length digits)) start ∙ take_at digits (end ∷ []) (length digits) refl

-- bytes begin with one numeral at most
pub numeral_unique : (bytes : List ℕ) (end one other : ℕ) → end < 48 → end ≢ 43 → BeginsWithNumeral end bytes one → BeginsWithNumeral end bytes other → one ≡ other
numeral_unique bytes end one other low sign p q =
    let sizes : length p.0 ≡ length q.0 = sym (numeral_place bytes p.0 one end low sign p.1 p.2) ∙ numeral_place bytes q.0 other end low sign q.1 q.2 in
    let same : p.0 ≡ q.0 =
    sym (numeral_front bytes p.0 one end low sign p.1 p.2) ∙ ap (λ n. take n bytes) sizes ∙ numeral_front bytes q.0 other end low sign q.1 q.2 in
    sym p.2.1 ∙ ap (λ xs. digits_value 10 (without_leading_plus xs)) same ∙ q.2.1

module _ (bytes : List ℕ) (end : ℕ) (low : end < 48) (sign : end ≢ 43) where
  -- there is none where the byte is not there
  pub numeral_none : position (is_end end) bytes ≡ None → (number : ℕ) → number < 2 ^ 64 → BeginsWithNumeral end bytes number → ⊥
  numeral_none none number fits begins =
      let place = numeral_place bytes begins.0 number end low sign begins.1 begins.2 in
      let within = numeral_within bytes begins.0 number end low sign begins.1 begins.2 in
      let found : ltb (position_or_len (is_end end) bytes) (length bytes) ≡ true = lt-ltb _ _ (omega (arith, place, within)) in
      let some : Some (position_or_len (is_end end) bytes) ≡ None = sym (ap (λ b. cond b (Some (position_or_len (is_end end) bytes)) None) found) ∙ none in
      absurd (cc)

  -- otherwise it is what stands before that byte
  pub numeral_result : (size : ℕ) (result : Option ℕ) → position (is_end end) bytes ≡ Some size
      → MatchOption result ((number : ℕ) → number < 2 ^ 64 → IsNumeralOf (take size bytes) number → ⊥) (λ number. (number < 2 ^ 64) × IsNumeralOf (take size bytes) number)
      → MatchOption result ((number : ℕ) → number < 2 ^ 64 → BeginsWithNumeral end bytes number → ⊥) (λ number. (number < 2 ^ 64) × BeginsWithNumeral end bytes number)
  numeral_result size (Some number) at known =
      let first = position-Some (is_end end) bytes size 0 at in
      let here : get_or bytes size 0 ≡ end = eqb-true _ _ first.1 in
      let whole : length (take size bytes) ≡ size = length-take-le size bytes (omega (arith, first.0)) in
      let long : length (take size bytes ++ end ∷ []) ≡ size + 1 = omega (arith, length-append (take size bytes) (end ∷ []), whole) in
      let start : StartsWith bytes (take size bytes ++ end ∷ []) =
      ap (λ n. take n bytes) long ∙ take_more bytes size 0 first.0 ∙ ap (λ x. take size bytes ++ x ∷ []) here in
      (known.0, (take size bytes, start, known.1))
  numeral_result size None at known = λ number fits begins.
      let first = position-Some (is_end end) bytes size 0 at in
      let place = numeral_place bytes begins.0 number end low sign begins.1 begins.2 in
      let same : position_or_len (is_end end) bytes ≡ size = position_or_len_is (is_end end) bytes size 0 (omega (arith, first.0)) first.2 (λ _. first.1) in
      let front : take size bytes ≡ begins.0 = ap (λ n. take n bytes) (sym same ∙ place) ∙ numeral_front bytes begins.0 number end low sign begins.1 begins.2 in
      known number fits (subst (λ xs. IsNumeralOf xs number) (sym front) begins.2)

-- ---- versions

-- bytes do not begin as both forms
starts_exclude : (bytes : List ℕ) → StartsWith bytes text_start → StartsWith bytes json_start → ⊥
starts_exclude [] text json = absurd (cc)
starts_exclude (x ∷ xs) text json =
    let one : x ≡ 115 = ap (λ ys. get_or ys 0 0) text in
    let other : x ≡ 123 = ap (λ ys. get_or ys 0 0) json in
    omega arith

-- bytes begin with a start that others follow
starts : (bytes start rest : List ℕ) → bytes ≡ start ++ rest → StartsWith bytes start
starts bytes start rest same = ap (take (length start)) same ∙ take_at start rest (length start) refl

after_start : (bytes start rest : List ℕ) → bytes ≡ start ++ rest → drop (length start) bytes ≡ rest
after_start bytes start rest same = ap (drop (length start)) same ∙ drop_at start rest (length start) refl

module _ (bytes rest : List ℕ) (started : bytes ≡ text_start ++ rest) where
  text_numeral : (version : ℕ) → IsOtherVersion bytes version → BeginsWithNumeral 10 rest version × (version ≢ 2)
  text_numeral version other =
      ⊎_elim (λ h. (subst (λ xs. BeginsWithNumeral 10 xs version) (after_start bytes text_start rest started) h.0.1, h.1))
      (λ h. absurd (starts_exclude bytes (starts bytes text_start rest started) h.0)) other.1

  pub text_version : (number : ℕ) → number < 2 ^ 64 → BeginsWithNumeral 10 rest number → number ≢ 2 → (version : ℕ) → (number ≡ version) ↔ IsOtherVersion bytes version
  text_version number fits begins differs version = (
    λ same. subst (IsOtherVersion bytes) same (
      fits,
      inl (
        (
          starts bytes text_start rest started,
          subst (λ xs. BeginsWithNumeral 10 xs number) (sym (after_start bytes text_start rest started)) begins,
        ),
        differs,
      ),
    ),
    λ other. numeral_unique rest 10 number version (omega arith) (λ e. absurd (omega arith)) begins (text_numeral version other).0,
  )

  pub text_damaged : ((number : ℕ) → number < 2 ^ 64 → BeginsWithNumeral 10 rest number → number ≢ 2 → ⊥) → (version : ℕ) → IsOtherVersion bytes version → ⊥
  text_damaged none version other = let found = text_numeral version other in none version other.0 found.0 found.1

  pub text_two : (number : ℕ) → number ≡ 2 → BeginsWithNumeral 10 rest number → (other : ℕ) → other < 2 ^ 64 → BeginsWithNumeral 10 rest other → other ≢ 2 → ⊥
  text_two number two begins other fits begins' differs = differs (sym (numeral_unique rest 10 number other (omega arith) (λ e. absurd (omega arith)) begins begins') ∙ two)

module _ (bytes rest : List ℕ) (started : bytes ≡ json_start ++ rest) where
  json_numeral : (version : ℕ) → IsOtherVersion bytes version → BeginsWithNumeral 44 rest version
  json_numeral version other =
      ⊎_elim (λ h. absurd (starts_exclude bytes h.0.0 (starts bytes json_start rest started)))
      (λ h. subst (λ xs. BeginsWithNumeral 44 xs version) (after_start bytes json_start rest started) h.1) other.1

  pub json_version : (number : ℕ) → number < 2 ^ 64 → BeginsWithNumeral 44 rest number → (version : ℕ) → (number ≡ version) ↔ IsOtherVersion bytes version
  json_version number fits begins version = (
    λ same. subst (IsOtherVersion bytes) same (
      fits,
      inr (
        starts bytes json_start rest started,
        subst (λ xs. BeginsWithNumeral 44 xs number) (sym (after_start bytes json_start rest started)) begins,
      ),
    ),
    λ other. numeral_unique rest 44 number version (omega arith) (λ e. absurd (omega arith)) begins (json_numeral version other),
  )

  pub json_damaged : ((number : ℕ) → number < 2 ^ 64 → BeginsWithNumeral 44 rest number → ⊥) → (version : ℕ) → IsOtherVersion bytes version → ⊥
  json_damaged none version other = none version other.0 (json_numeral version other)

-- a start that the bytes do not have
pub lacks_start : (bytes start : List ℕ) → ((rest : List ℕ) → bytes ≡ start ++ rest → ⊥) → StartsWith bytes start → ⊥
lacks_start bytes start none has =
    none (drop (length start) bytes) (sym (take-append-drop (length start) bytes) ∙ ap (λ xs. xs ++ drop (length start) bytes) has)

-- bytes of no form are of no version
pub foreign_version : (bytes : List ℕ) → IsForeign bytes → (version : ℕ) → IsOtherVersion bytes version → ⊥
foreign_version bytes foreign version other = ⊎_elim (λ h. foreign.0 h.0.0) (λ h. foreign.1 h.0) other.1

-- bytes of this form are of no other version, and of no other form
pub first_line_known : (bytes rest : List ℕ) → bytes ≡ first_line ++ rest → (IsForeign bytes → ⊥) × ((version : ℕ) → IsOtherVersion bytes version → ⊥)
first_line_known bytes rest started =
    let text : bytes ≡ text_start ++ (50 ∷ 10 ∷ rest) = started in
    let two : BeginsWithNumeral 10 (50 ∷ 10 ∷ rest) 2 = (50 ∷ [], refl, ((omega arith, (omega arith, tt)), refl)) in (
      λ foreign. foreign.0 (starts bytes text_start (50 ∷ 10 ∷ rest) text),
      text_damaged bytes (50 ∷ 10 ∷ rest) text (text_two bytes (50 ∷ 10 ∷ rest) text 2 refl two),
    )
