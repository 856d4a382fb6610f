-- Effect by effect, how many frames each makes, and the bytes that it may hold.
use Rattle.std.proofs.Common.{◌≡◌, ℕ, ◌+◌, ◌-◌, ◌*◌, ◌^◌, ◌≤◌, min, false, List, [], ◌∷◌, ◌++◌, Option, Some, None, map, length, sum, sum_by, refl, sym, ap, ◌∙◌, arith, append_assoc, replicate, subst}
use Rattle.std.specs.List.{All, list_any}
use Rattle.std.proofs.lemmas.List.Elements.{All-append, All-cons, All-head, All-nil, All-tail}
use Rattle.std.proofs.lemmas.Bool.Decides.{nat_tests}
use mathlib.Core.Path.{ap₂}
use Rattle.std.proofs.Math.Nat.{mul-le-mul, mul-le-mul_left}
use Rattle.std.proofs.lemmas.List.Sums.{sum_by-cons}
use Rattle.std.proofs.lemmas.List.{length-replicate, map-append}
use Rattle.fx_frame_base.specs.Frame.{Samples}
use Rattle.fx_plan_effects.specs.Effects.{Act, Usable, channels_after}
use Rattle.fx_plan_effects.specs.Registry.{OfEchos, OfRemix}
use Rattle.fx_plan_effects.specs.Meanings.{InPlace, line_of_act, meaning_at, recipe_at}
use Rattle.fx_plan_effects.specs.Bounds.{hold_of_act, is_beyond_limit, maxima}
use Rattle.fx_chain_flow.specs.Composed.{composed_wholes, frames_of}
use Rattle.fx_chain_stages.specs.Made.{recipes_for}
use Rattle.soxchain_plan.specs.Outlines.{bytes_along, held_bytes, sample_bytes, whole_frames}
pub use Rattle.fx_plan_lengths.proofs.Made.{composed-made, made-frames, made-within, made_last, made_of, meaning-length}

-- how many frames each makes of those that the one before makes
abbrev pub made_along : List Act → ℕ → List ℕ
made_along [] n = []
made_along (a ∷ acts) n = made_of a n ∷ made_along acts (made_of a n)

pub wholes-made : (channels : ℕ) (acts : List Act) (x : List Samples) → map whole_frames (composed_wholes meaning_at (recipes_for channels acts) x) ≡ map Some (made_along acts (length x))
wholes-made channels [] x = refl
wholes-made channels (a ∷ acts) x =
    ap₂ (λ n ns. Some n ∷ ns) (meaning-length channels a x)
    (wholes-made (channels_after channels a) acts (frames_of (meaning_at (recipe_at (InPlace channels a)) x)) ∙ ap (λ n. map Some (made_along acts n)) (made-frames channels a x))

-- one more at the end of those that are there, and one fewer to come
pub appended : {X : Type 0} (xs rest all : List X) (x y : X) → xs ++ (y ∷ rest) ≡ all → x ≡ y → (xs ++ x ∷ []) ++ rest ≡ all
appended xs rest all x y e same = append_assoc xs (x ∷ []) rest ∙ ap (λ z. xs ++ (z ∷ rest)) same ∙ e

pub map-more : {X Y : Type 0} (f : X → Y) (xs zs : List X) (x : X) → zs ≡ xs ++ x ∷ [] → map f zs ≡ map f xs ++ f x ∷ []
map-more f xs zs x e = ap (map f) e ∙ map-append f xs (x ∷ [])

pub all-none : {X : Type 0} (P : X → Type 0) (zs : List X) → zs ≡ [] → All P zs
all-none P zs e = subst (All P) (sym e) (All-nil P)

pub all-more : {X : Type 0} (P : X → Type 0) (xs zs : List X) (x : X) → zs ≡ xs ++ x ∷ [] → All P xs → P x → All P zs
all-more P xs zs x e h p = subst (All P) (sym e) (All-append P xs (x ∷ []) h (All-cons P x [] p (All-nil P)))

-- these frames are told after effects of which the rest is to come, and these are left, where the first of all takes n
pub record Counted (acts rest : List Act) (delivered : List (Option ℕ)) (left : Option ℕ) (n : ℕ) : Type 0 where
  pub now : ℕ
  pub is : left ≡ Some now
  pub each : delivered ++ map Some (made_along rest now) ≡ map Some (made_along acts n)
  pub last : made_last rest now ≡ made_last acts n
  pub short : list_any is_beyond_limit (maxima rest now) ≡ false

pub begun : (acts : List Act) (left : Option ℕ) (n : ℕ) → left ≡ Some n → list_any is_beyond_limit (maxima acts n) ≡ false → Counted acts acts [] left n
begun acts left n e h = record { now = n; is = e; each = refl; last = refl; short = h }

pub counted-more : (acts rest : List Act) (a : Act) (delivered : List (Option ℕ)) (left next : Option ℕ) (n : ℕ) → Counted acts (a ∷ rest) delivered left n
    → ((m : ℕ) → left ≡ Some m → next ≡ Some (min (made_of a m) (2 ^ 64 - 1))) → Counted acts rest (delivered ++ next ∷ []) next n
counted-more acts rest a delivered left next n c h =
    let within = made-within a rest c.now c.short in
    let bound = within.0 in
    let whole : min (made_of a c.now) (2 ^ 64 - 1) ≡ made_of a c.now = omega arith in
    let same : next ≡ Some (made_of a c.now) = h c.now c.is ∙ ap Some whole in
    record {
      now = made_of a c.now;
      is = same;
      each = appended delivered (map Some (made_along rest (made_of a c.now))) (map Some (made_along acts n)) next (Some (made_of a c.now)) c.each same;
      last = c.last;
      short = within.1;
    }

-- of effects whose frames after so many are those of their definitions, as a number
pub by-number : (a : Act) (channels m : ℕ) (left next : Option ℕ)
    → ((sound : List Samples) → left ≡ Some (length sound) → next ≡ Some (min (length (meaning_at (recipe_at (InPlace channels a)) sound)) (2 ^ 64 - 1)))
    → left ≡ Some m → next ≡ Some (min (made_of a m) (2 ^ 64 - 1))
by-number a channels m left next h e =
    let sound : List Samples = replicate m [] in
    let long : length sound ≡ m = length-replicate m [] in
    h sound (e ∙ ap Some (sym long)) ∙ ap (λ k. Some (min k (2 ^ 64 - 1))) (meaning-length channels a sound ∙ ap (made_of a) long)

-- ---- the bytes that they may hold

pub bound-after : (channels : ℕ) (a : Act) → Usable a → channels ≤ 16 → channels_after channels a ≤ 16
bound-after channels (OfRemix specs) u h = grind (arith, nat_tests)
bound-after channels other u h = h

sample-bound : (a : Act) → sample_bytes a ≤ 8
sample-bound (OfEchos e) = omega arith
sample-bound other = omega arith

pub held-bound : (channels : ℕ) (a : Act) → Usable a → channels ≤ 16 → held_bytes (InPlace channels a) ≤ 128 * hold_of_act a
held-bound channels a u h =
    let after = bound-after channels a u h in
    let samples = sample-bound a in
    let line : line_of_act a * channels * sample_bytes a ≤ line_of_act a * 16 * 8 = mul-le-mul (mul-le-mul_left (line_of_act a) h) samples in
    omega (arith, line, after)

pub bytes-bound : (channels : ℕ) (acts : List Act) → All Usable acts → channels ≤ 16 → sum (bytes_along channels acts) ≤ 128 * sum_by hold_of_act acts
bytes-bound channels [] u h = omega arith
bytes-bound channels (a ∷ acts) u h =
    let first = held-bound channels a (All-head Usable a acts u) h in
    let rest = bytes-bound (channels_after channels a) acts (All-tail Usable a acts u) (bound-after channels a (All-head Usable a acts u) h) in
    omega (arith, first, rest, sum_by-cons hold_of_act a acts, sum_by-cons (λ n. n) (held_bytes (InPlace channels a)) (bytes_along (channels_after channels a) acts))
