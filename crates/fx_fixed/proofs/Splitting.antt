-- A time specification is its first term, and then the later ones.
use Rattle.std.proofs.Common.{◌≡◌, ℕ, ◌+◌, ◌-◌, ◌*◌, ◌/◌, ◌%◌, ◌^◌, ◌++◌, length-take, Option, Some, None, ◌≤◌, Bool, true, false, not, ◌&&◌, List, [], ◌∷◌, length, take, drop, ap, ◌∙◌, sym, refl, arith, one-add, length-drop, Result, Ok, Err, ◌==◌, IfOk, if◌then◌else◌, nat_eq, nat_lt, sum_by}
use Rattle.std.specs.List.{list_all}
use Rattle.std.specs.Option.{option_or}
use Rattle.std.specs.Result.{result_err}
use Rattle.std.specs.Str.Parse.{digits_value}
use Rattle.std.proofs.lemmas.Bool.{false≢true, le-ltb}
use Rattle.std.proofs.Math.Bool.{and-false}
use Rattle.std.proofs.lemmas.List.{take_all}
use Rattle.std.proofs.lemmas.List.Sums.{sum_by-cons}
use Rattle.fx_fixed.specs.Clock.{clock_of, components_of, fraction_of, clock_frames_of, has_clock_form, seconds_of, within_reach}
use Rattle.fx_fixed.specs.Count.{count_of, is_count, whole_of}
use Rattle.fx_fixed.specs.Decimals.{fraction_digits, is_mark, is_sign, lowered_by, raised_by, unsigned, whole_digits}
use Rattle.fx_fixed.specs.Later.{BeginsSigned, IsLater, IsNext, frames_in, is_bad}
use Rattle.fx_fixed.specs.TermEnd.{term_len}
use Rattle.fx_fixed.specs.Times.{added_by, fault_in, is_counted, is_term, later_terms, taken_by, term_of, terms_unless, terms_after, terms_by, terms_of, without_last}
use Rattle.fx_fixed.specs.declared.times.TimeFault.{TimeFault}
use Rattle.fx_fixed.specs.declared.times.TimeFault.TheVariants.{BadTime, Negative, NotWhole, TooFar}
use Rattle.fx_fixed.specs.declared.terms.Later.{Later}

-- the first term ends where the code finds its end
pub terms_cut : (after_mark : Bool) (text : List ℕ) → terms_after after_mark text ≡ take (term_len after_mark text) text ∷ later_terms (drop (term_len after_mark text) text)
terms_cut after_mark [] = refl
terms_cut after_mark (c ∷ cs) = go (is_sign c && not after_mark) refl (is_sign c) refl (terms_cut (is_mark c) cs) where
  go : (b : Bool) → (is_sign c && not after_mark) ≡ b → (s : Bool) → is_sign c ≡ s →
      terms_after (is_mark c) cs ≡ take (term_len (is_mark c) cs) cs ∷ later_terms (drop (term_len (is_mark c) cs) cs) →
      terms_after after_mark (c ∷ cs) ≡ take (term_len after_mark (c ∷ cs)) (c ∷ cs) ∷ later_terms (drop (term_len after_mark (c ∷ cs)) (c ∷ cs))
  go true cut true sign rest = rw (cut, sign) refl
  go true cut false sign rest = absurd (false≢true (rw sign at cut))
  go false more s sign rest = rw (more, one-add, rest) refl

-- the first of the later terms
pub next_is : (c : ℕ) (more : List ℕ) → is_sign c ≡ true → later_terms (c ∷ more) ≡ (c ∷ take (term_len false more) more) ∷ later_terms (drop (term_len false more) more)
next_is c more sign = rw (sign, terms_cut false more) refl

pub next_found : (text : List ℕ) (c : ℕ) (more : List ℕ) (end : ℕ) → text ≡ c ∷ more → BeginsSigned text → end ≡ term_len false more → end ≤ length more → BeginsSigned (drop end more) →
    IsNext text (nat_eq c 45) (take end more) (take (length more - end) (drop end more))
next_found text c more end text_is begins end_is within rest =
    let sign : is_sign c ≡ true = begins_with text c more text_is begins in
    let whole : take (length more - end) (drop end more) ≡ drop end more = take_all (length more - end) (drop end more) (rw length-drop (omega arith)) in
    rw whole (record {
      signed = c ∷ take end more;
      cut = ap later_terms text_is ∙ next_is c more sign ∙ rw end_is refl;
      sign = refl;
      body = rw sign refl;
      begins = rest;
      shorter = rw text_is (simp length-drop (omega arith));
      term_shorter = rw text_is (simp length-take (omega arith));
    })
  where
    begins_with : (text : List ℕ) (c : ℕ) (more : List ℕ) → text ≡ c ∷ more → BeginsSigned text → is_sign c ≡ true
    begins_with text c more text_is begins = rw text_is at begins

-- ---- a term that is bad has the form of none

not_bad_reach : (frames : ℕ) → is_bad (within_reach frames) ≡ false
not_bad_reach frames = go (nat_lt (2 ^ 40) frames) refl where
  go : (b : Bool) → nat_lt (2 ^ 40) frames ≡ b → is_bad (within_reach frames) ≡ false
  go true far = rw far refl
  go false near = rw near refl

not_bad_whole : (n raised lowered : ℕ) → is_bad (whole_of n raised lowered) ≡ false
not_bad_whole n raised lowered = go ((n * 10 ^ raised) % 10 ^ lowered == 0) refl where
  go : (b : Bool) → ((n * 10 ^ raised) % 10 ^ lowered == 0) ≡ b → is_bad (whole_of n raised lowered) ≡ false
  go true whole = rw whole (not_bad_reach (n * 10 ^ raised / 10 ^ lowered))
  go false other = rw other refl

is_count-by : (text : List ℕ) → is_count text ≡ not (is_bad (count_of text))
is_count-by text = go (is_count text) refl where
  go : (b : Bool) → is_count text ≡ b → is_count text ≡ not (is_bad (count_of text))
  go true form = rw (form, not_bad_whole (digits_value 10 (whole_digits text ++ fraction_digits text)) (raised_by text) (length (fraction_digits text) + lowered_by text)) refl
  go false other = rw other refl

has_clock_form-by : (rate : ℕ) (text : List ℕ) → has_clock_form text ≡ not (is_bad (clock_of rate text))
has_clock_form-by rate text = by_form (has_clock_form text) (clock_frames_of rate (seconds_of (components_of text)) (digits_value 10 (fraction_of text)) (length (fraction_of text))) where
  by_form : (b : Bool) (frames : ℕ) → b ≡ not (is_bad (if b then within_reach frames else Err BadTime))
  by_form true frames = rw (not_bad_reach frames) refl
  by_form false frames = refl

pub is_term-by : (rate : ℕ) (term : List ℕ) → is_term term ≡ not (is_bad (term_of rate term))
is_term-by rate term = go (is_counted term) refl where
  go : (b : Bool) → is_counted term ≡ b → is_term term ≡ not (is_bad (term_of rate term))
  go true counted = rw counted (is_count-by (without_last term))
  go false clock = rw clock (has_clock_form-by rate term)

-- ---- one of the later terms

later_form : (rate : ℕ) (text after term : List ℕ) (is_taken : Bool) → IsNext text is_taken term after →
    list_all (λ term. is_term (unsigned term)) (later_terms text) ≡ (not (is_bad (term_of rate term)) && list_all (λ term. is_term (unsigned term)) (later_terms after))
later_form rate text after term is_taken next = rw (next.cut, next.body, is_term-by rate term) refl

pub form_next : (rate : ℕ) (text after term : List ℕ) (is_taken : Bool) → IsNext text is_taken term after → is_bad (term_of rate term) ≡ false →
    list_all (λ term. is_term (unsigned term)) (later_terms after) ≡ list_all (λ term. is_term (unsigned term)) (later_terms text)
form_next rate text after term is_taken next good = sym (later_form rate text after term is_taken next ∙ rw good refl)

pub form_bad : (rate : ℕ) (text after term : List ℕ) (is_taken : Bool) → IsNext text is_taken term after → term_of rate term ≡ Err BadTime →
    list_all (λ term. is_term (unsigned term)) (later_terms text) ≡ false
form_bad rate text after term is_taken next bad = later_form rate text after term is_taken next ∙ rw bad refl

pub fault_next : (rate : ℕ) (text after term : List ℕ) (is_taken : Bool) (before : Option TimeFault) → IsNext text is_taken term after →
    option_or (option_or before (result_err (term_of rate term))) (fault_in rate (later_terms after)) ≡ option_or before (fault_in rate (later_terms text))
fault_next rate text after term is_taken None next = rw (next.cut, next.body) refl
fault_next rate text after term is_taken (Some fault) next = refl

pub added_next : (rate : ℕ) (text after term : List ℕ) (is_taken : Bool) (before : ℕ) → IsNext text is_taken term after →
    before + (if is_taken then 0 else frames_in (term_of rate term)) + sum_by (added_by rate) (later_terms after) ≡ before + sum_by (added_by rate) (later_terms text)
added_next rate text after term is_taken before next =
    let first : added_by rate next.signed ≡ (if is_taken then 0 else frames_in (term_of rate term)) = rw (next.sign, next.body) refl in
    let sum = sum_by-cons (added_by rate) next.signed (later_terms after) in
    rw (next.cut, sum, first) (omega arith)

pub taken_next : (rate : ℕ) (text after term : List ℕ) (is_taken : Bool) (before : ℕ) → IsNext text is_taken term after →
    before + (if is_taken then frames_in (term_of rate term) else 0) + sum_by (taken_by rate) (later_terms after) ≡ before + sum_by (taken_by rate) (later_terms text)
taken_next rate text after term is_taken before next =
    let first : taken_by rate next.signed ≡ (if is_taken then frames_in (term_of rate term) else 0) = rw (next.sign, next.body) refl in
    let sum = sum_by-cons (taken_by rate) next.signed (later_terms after) in
    rw (next.cut, sum, first) (omega arith)

-- a term moves by 2^40 frames at most
pub frames_bound : (term : Result ℕ TimeFault) → IfOk term (λ frames. frames ≤ 2 ^ 40) → frames_in term ≤ 2 ^ 40
frames_bound (Ok frames) bound = bound
frames_bound (Err fault) bound = omega arith

pub moved_bound : (is_taken : Bool) (frames : ℕ) → frames ≤ 2 ^ 40 → ((if is_taken then 0 else frames) ≤ 2 ^ 40) × ((if is_taken then frames else 0) ≤ 2 ^ 40)
moved_bound true frames bound = (omega arith, bound)
moved_bound false frames bound = (bound, omega arith)

-- ---- the first term, and the later ones

-- what a text's terms are by its first term and what follows that
pub terms_split : (rate : ℕ) (text first rest : List ℕ) (end : ℕ) → length text ≤ 80 → end ≡ term_len false text → first ≡ take end text → rest ≡ drop end text →
    terms_of rate text ≡ terms_by rate (first ∷ later_terms rest)
terms_split rate text first rest end short end_is first_is rest_is =
    let bound : nat_lt 80 (length text) ≡ false = le-ltb 80 (length text) short in
    rw (bound, first_is, rest_is, end_is) (ap (terms_by rate) (terms_cut false text))

-- one of the later terms is bad
pub bad_later : (rate : ℕ) (first : List ℕ) (later : List (List ℕ)) → list_all (λ term. is_term (unsigned term)) later ≡ false → terms_by rate (first ∷ later) ≡ Err BadTime
bad_later rate first later bad = rw (bad, and-false (is_term first)) refl

-- the first term has a fault
pub bad_first : (rate : ℕ) (first : List ℕ) (later : List (List ℕ)) (fault : TimeFault) → list_all (λ term. is_term (unsigned term)) later ≡ true → term_of rate first ≡ Err fault →
    terms_by rate (first ∷ later) ≡ Err fault
bad_first rate first later BadTime form first_is = rw (is_term-by rate first, first_is) refl
bad_first rate first later NotWhole form first_is = rw (is_term-by rate first, first_is, form) refl
bad_first rate first later Negative form first_is = rw (is_term-by rate first, first_is, form) refl
bad_first rate first later TooFar form first_is = rw (is_term-by rate first, first_is, form) refl

-- the first term has none
pub good_first : (rate : ℕ) (first : List ℕ) (terms : List (List ℕ)) (frames : ℕ) (later : Later) → IsLater rate later terms → term_of rate first ≡ Ok frames →
    terms_by rate (first ∷ terms) ≡ terms_unless later.fault (record { first = frames; added = later.added; taken = later.taken })
good_first rate first terms frames later read first_is =
    rw (is_term-by rate first, first_is, read.form, read.fault, read.added, read.taken) refl
