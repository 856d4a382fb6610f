-- Time specifications as text, by sox(1), Effects, and this project's profile: cut into terms, each rounded separately.
use Rattle.std.specs.Prelude.{ℕ, ◌+◌, ◌-◌, nat_eq, nat_lt, not, ◌&&◌, Bool, false, if◌then◌else◌, List, [], ◌∷◌, length, take, drop, codes, sum_by, Option, Some, None, Result, Ok, Err}
use Rattle.std.specs.List.{ends_with, list_all, onto_first}
use Rattle.std.specs.Option.{option_or}
use Rattle.std.specs.Result.{result_err, result_unwrap_or}
use Rattle.fx_fixed.specs.Clock.{clock_of, has_clock_form, within_reach}
use Rattle.fx_fixed.specs.Count.{count_of, is_count}
use Rattle.fx_fixed.specs.Decimals.{is_mark, is_negative, is_sign, unsigned}
use Rattle.fx_fixed.specs.declared.terms.Terms.{Terms}
use Rattle.fx_fixed.specs.declared.times.TimeFault.{TimeFault}
use Rattle.fx_fixed.specs.declared.times.TimeFault.TheVariants.{BadTime, Negative}

-- the terms of a text, each but the first beginning with its sign: cut before each plus or minus that follows no `e`
abbrev pub terms_after : Bool → List ℕ → List (List ℕ)
terms_after after_mark [] = [] ∷ []
terms_after after_mark (c ∷ cs) =
    if is_sign c && not after_mark
    then [] ∷ onto_first c (terms_after false cs)
    else onto_first c (terms_after (is_mark c) cs)

abbrev pub later_terms : List ℕ → List (List ℕ)
later_terms text = drop 1 (terms_after false text)

-- a term that ends in an `s` is a sample count
abbrev pub is_counted : List ℕ → Bool
is_counted term = ends_with nat_eq term (codes "s")

abbrev pub without_last : List ℕ → List ℕ
without_last term = take (length term - 1) term

-- the form of a term
abbrev pub is_term : List ℕ → Bool
is_term term = if is_counted term then is_count (without_last term) else has_clock_form term

-- later terms, each beginning with its sign, all have that form
abbrev pub are_terms : List (List ℕ) → Bool
are_terms terms = list_all (λ term. is_term (unsigned term)) terms

-- the frames of a term, or its first fault
abbrev pub term_of : ℕ → List ℕ → Result ℕ TimeFault
term_of rate term = if is_counted term then count_of (without_last term) else clock_of rate term

-- the first fault of terms that each begin with a sign
abbrev pub fault_in : ℕ → List (List ℕ) → Option TimeFault
fault_in rate [] = None
fault_in rate (term ∷ terms) =
    option_or (result_err (term_of rate (unsigned term))) (fault_in rate terms)

-- the frames that a term beginning with its sign adds, and those that it subtracts
abbrev pub added_by : ℕ → List ℕ → ℕ
added_by rate term = if is_negative term then 0 else result_unwrap_or (term_of rate (unsigned term)) 0

abbrev pub taken_by : ℕ → List ℕ → ℕ
taken_by rate term = if is_negative term then result_unwrap_or (term_of rate (unsigned term)) 0 else 0

-- terms, unless there is a fault
abbrev pub terms_unless : Option TimeFault → Terms → Result Terms TimeFault
terms_unless (Some fault) terms = Err fault
terms_unless None terms = Ok terms

-- those terms, or the first fault: another form anywhere, then one term after the other
abbrev pub terms_by : ℕ → List (List ℕ) → Result Terms TimeFault
terms_by rate [] = Err BadTime
terms_by rate (first ∷ later) =
    if not (is_term first && are_terms later) then Err BadTime
    else terms_unless (option_or (result_err (term_of rate first)) (fault_in rate later)) (record {
      first = result_unwrap_or (term_of rate first) 0;
      added = sum_by (added_by rate) later;
      taken = sum_by (taken_by rate) later;
    })

-- the terms of a text of at most 80 bytes
abbrev pub terms_of : ℕ → List ℕ → Result Terms TimeFault
terms_of rate text =
    if nat_lt 80 (length text) then Err BadTime else terms_by rate (terms_after false text)

-- what is ahead less what is back: not below 0, and not too far
abbrev pub frames_between : ℕ → ℕ → Result ℕ TimeFault
frames_between ahead back = if nat_lt ahead back then Err Negative else within_reach (ahead - back)

-- the frames of a time's terms
abbrev pub time_by : Result Terms TimeFault → Result ℕ TimeFault
time_by (Ok terms) = frames_between (terms.first + terms.added) terms.taken
time_by (Err fault) = Err fault

-- the frames of a time specification, or its first fault
abbrev pub time_of : ℕ → List ℕ → Result ℕ TimeFault
time_of rate text = time_by (terms_of rate text)
