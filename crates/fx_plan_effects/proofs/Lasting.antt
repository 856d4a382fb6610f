-- Which lengths are past the limit.
use Rattle.std.proofs.Common.{◌≡◌, ℕ, ◌+◌, ◌*◌, ◌^◌, ◌≤◌, ◌<◌, List, [], ◌∷◌, true, false, length, refl, arith, sym, ◌∙◌}
use Rattle.std.specs.List.{list_any}
use Rattle.std.proofs.lemmas.List.Sums.{sum_by-cons}
use Rattle.std.proofs.lemmas.Bool.Decides.{nat_tests}
use Rattle.fx_plan_effects.specs.Effects.{Act}
use Rattle.fx_plan_effects.specs.Meanings.{InPlace, max_of_act, recipe_at}
use Rattle.fx_plan_effects.specs.Bounds.{is_beyond_limit, maxima, work_of}
pub use Rattle.fx_plan_effects.proofs.Registered.{rises-at}

pub is_beyond_limit-yes : (n : ℕ) → 2 ^ 56 < n → is_beyond_limit n ≡ true
is_beyond_limit-yes n h = grind (arith, nat_tests)

pub is_beyond_limit-no : (n : ℕ) → n ≤ 2 ^ 56 → is_beyond_limit n ≡ false
is_beyond_limit-no n h = grind (arith, nat_tests)

pub maxima-beyond : (acts : List Act) (n : ℕ) → 2 ^ 56 < n → list_any is_beyond_limit (maxima acts n) ≡ true
maxima-beyond [] n h = rw (is_beyond_limit-yes n h) refl
maxima-beyond (a ∷ acts) n h = rw (is_beyond_limit-yes n h) refl

pub maxima-step : (a : Act) (acts : List Act) (n : ℕ) → n ≤ 2 ^ 56 → list_any is_beyond_limit (maxima (a ∷ acts) n) ≡ list_any is_beyond_limit (maxima acts (max_of_act a n))
maxima-step a acts n h = rw (is_beyond_limit-no n h) refl

pub max_rises : (a : Act) (m n : ℕ) → m ≤ n → max_of_act a m ≤ max_of_act a n
max_rises a m n h = rises-at (recipe_at (InPlace 1 a)) m n h

-- where nothing is past the limit, n is not, and nothing after the first effect is
pub within-here : (acts : List Act) (n : ℕ) → list_any is_beyond_limit (maxima acts n) ≡ false → n ≤ 2 ^ 56
within-here [] n h = grind (arith, nat_tests)
within-here (a ∷ acts) n h = grind (arith, nat_tests)

pub within-next : (a : Act) (acts : List Act) (n : ℕ) → list_any is_beyond_limit (maxima (a ∷ acts) n) ≡ false → list_any is_beyond_limit (maxima acts (max_of_act a n)) ≡ false
within-next a acts n h = sym (maxima-step a acts n (within-here (a ∷ acts) n h)) ∙ h

-- what is short of the limit for more frames is so for fewer
pub within-fewer : (acts : List Act) (m n : ℕ) → m ≤ n → list_any is_beyond_limit (maxima acts n) ≡ false → list_any is_beyond_limit (maxima acts m) ≡ false
within-fewer [] m n h e = let k = within-here [] n e in rw (is_beyond_limit-no m (omega arith)) refl
within-fewer (a ∷ acts) m n h e =
    let k = within-here (a ∷ acts) n e in
    maxima-step a acts m (omega arith) ∙ within-fewer acts (max_of_act a m) (max_of_act a n) (max_rises a m n h) (within-next a acts n e)

-- the first frames, and the work after them
pub work-cons : (a : Act) (acts : List Act) (n : ℕ) → work_of (a ∷ acts) n ≡ n + work_of acts (max_of_act a n)
work-cons a acts n = sum_by-cons (λ x. x) n (maxima acts (max_of_act a n))

-- the work of at most 32 effects fits 64 bits
pub work-bound : (acts : List Act) (n : ℕ) → list_any is_beyond_limit (maxima acts n) ≡ false → work_of acts n ≤ (length acts + 1) * 2 ^ 56
work-bound [] n h = let k = within-here [] n h in omega arith
work-bound (a ∷ acts) n h =
    let k = within-here (a ∷ acts) n h in
    let rest = work-bound acts (max_of_act a n) (within-next a acts n h) in
    omega (arith, work-cons a acts n, k, rest)

-- more frames in make no less work
pub work-rises : (acts : List Act) (m n : ℕ) → m ≤ n → work_of acts m ≤ work_of acts n
work-rises [] m n h = omega arith
work-rises (a ∷ acts) m n h =
    let rest_unchanged = work-rises acts (max_of_act a m) (max_of_act a n) (max_rises a m n h) in
    omega (arith, work-cons a acts m, work-cons a acts n, rest_unchanged)
