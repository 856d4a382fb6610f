-- Channels of which 1000 stands for each that is more.
use Rattle.std.proofs.Common.{◌≡◌, ◌≤◌, ℕ, ℤ, Bool, true, false, refl, arith, List, take, Option, Some, None, Result, Ok, Err, nat_lt, option_map}
use Rattle.std.proofs.lemmas.Bool.Decides.{nat_tests}
use Rattle.fx_plan_words.specs.Capped.{both_capped, capped}
use Rattle.fx_plan_words.specs.declared.fault.PlanCause.{PlanCause}
use Rattle.std.specs.List.{before_first, slice_range}
use native.Mathlib.Numerals.{unary_clauses}
use Rattle.fx_tap_pointwise.specs.InSpecs.{ends_in_spec, in_range, in_spec, in_turn, is_letter, vol_spec}

capped-tells : (channels n : ℕ) → channels ≤ 16 → nat_lt channels (capped n) ≡ nat_lt channels n
capped-tells channels n bound = go (nat_lt channels n) refl where
  go : (b : Bool) → nat_lt channels n ≡ b → nat_lt channels (capped n) ≡ nat_lt channels n
  go true h = grind (arith, nat_tests)
  go false h = grind (arith, nat_tests)

capped-same : (channels n : ℕ) → channels ≤ 16 → nat_lt channels n ≡ false → capped n ≡ n
capped-same channels n bound h =
    let within : n ≤ channels = grind (arith, nat_tests) in
    omega arith

-- no sound has the channels that are capped
in_range-capped : (channels : ℕ) (ends : ℕ × ℕ) (gain : Option ℤ) → channels ≤ 16 → in_range channels (both_capped ends) gain ≡ in_range channels ends gain
in_range-capped channels ends gain bound = go (nat_lt channels ends.0) (nat_lt channels ends.1) refl refl where
  go : (a b : Bool) → nat_lt channels ends.0 ≡ a → nat_lt channels ends.1 ≡ b → in_range channels (both_capped ends) gain ≡ in_range channels ends gain
  go true b h g = rw (capped-tells channels ends.0 bound, h) refl
  go false true h g = rw (capped-tells channels ends.0 bound, capped-tells channels ends.1 bound, h, g) refl
  go false false h g = rw (capped-same channels ends.0 bound h, capped-same channels ends.1 bound g) refl

in_turn-capped : (channels : ℕ) (ends : Option (ℕ × ℕ)) (gain : Result (Option ℤ) PlanCause) → channels ≤ 16 → in_turn channels (option_map both_capped ends) gain ≡ in_turn channels ends gain
in_turn-capped channels None gain bound = refl
in_turn-capped channels (Some ends) (Err cause) bound = refl
in_turn-capped channels (Some ends) (Ok gain) bound = in_range-capped channels ends gain bound

-- the text in front of a place
pub front-cut : (n : ℕ) (xs : List ℕ) → slice_range xs 0 n ≡ take n xs
front-cut n xs = simp unary_clauses refl

-- an in-spec of which the ends were read
pub in_spec-read : (channels : ℕ) (text front : List ℕ) (ends : Option (ℕ × ℕ)) (gain : Result (Option ℤ) PlanCause) → channels ≤ 16 →
    front ≡ before_first is_letter text → ends ≡ option_map both_capped (ends_in_spec channels front) → gain ≡ vol_spec text →
    in_turn channels ends gain ≡ in_spec channels text
in_spec-read channels text front ends gain bound front_is ends_is gain_is =
    rw (ends_is, front_is, gain_is) (in_turn-capped channels (ends_in_spec channels (before_first is_letter text)) (vol_spec text) bound)
