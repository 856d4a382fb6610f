-- What was read of a time's later terms.
use Rattle.std.specs.Prelude.{ℕ, ◌≡◌, ◌+◌, ◌<◌, Bool, true, false, ⊤, if◌then◌else◌, List, [], ◌∷◌, length, sum_by, Result, Ok, Err}
use Rattle.std.specs.Option.{option_or}
use Rattle.std.specs.Result.{result_err, result_unwrap_or}
use Rattle.fx_fixed.specs.Decimals.{is_negative, is_sign, unsigned}
use Rattle.fx_fixed.specs.Times.{added_by, are_terms, fault_in, later_terms, taken_by}
use Rattle.fx_fixed.specs.declared.terms.Later.{Later}
use Rattle.fx_fixed.specs.declared.times.TimeFault.{TimeFault}
use Rattle.fx_fixed.specs.declared.times.TimeFault.TheVariants.{BadTime, Negative, NotWhole, TooFar}

-- a text is empty, or begins with a sign
abbrev pub BeginsSigned : List ℕ → Type 0
BeginsSigned [] = ⊤
BeginsSigned (c ∷ cs) = is_sign c ≡ true

-- the first of a text's later terms, its sign, and what follows it
pub record IsNext (text : List ℕ) (is_taken : Bool) (term after : List ℕ) : Type 0 where
  pub signed : List ℕ
  pub cut : later_terms text ≡ signed ∷ later_terms after
  pub sign : is_negative signed ≡ is_taken
  pub body : unsigned signed ≡ term
  pub begins : BeginsSigned after
  pub shorter : length after < length text
  pub term_shorter : length term < length text

-- a fault for a text that has the form of no term
abbrev pub is_bad : Result ℕ TimeFault → Bool
is_bad (Ok frames) = false
is_bad (Err BadTime) = true
is_bad (Err NotWhole) = false
is_bad (Err Negative) = false
is_bad (Err TooFar) = false

-- the frames of a term, where it is one
abbrev pub frames_in : Result ℕ TimeFault → ℕ
frames_in term = result_unwrap_or term 0

-- what was read, with one term more
pub record IsWithTerm (before : Later) (is_taken : Bool) (term : Result ℕ TimeFault) (after : Later) : Type 0 where
  pub form : is_bad term ≡ false
  pub fault : after.fault ≡ option_or before.fault (result_err term)
  pub added : after.added ≡ before.added + (if is_taken then 0 else frames_in term)
  pub taken : after.taken ≡ before.taken + (if is_taken then frames_in term else 0)

-- what was read of those terms, all of which have the form of a term
pub record IsLater (rate : ℕ) (later : Later) (terms : List (List ℕ)) : Type 0 where
  pub form : are_terms terms ≡ true
  pub fault : later.fault ≡ fault_in rate terms
  pub added : later.added ≡ sum_by (added_by rate) terms
  pub taken : later.taken ≡ sum_by (taken_by rate) terms
