-- How many frames effects make of so many, by their number alone.
use Rattle.std.proofs.Common.{◌≡◌, ℕ, ◌+◌, ◌-◌, ◌*◌, ◌^◌, ◌≤◌, min, false, List, [], ◌∷◌, Option, Some, None, length, sum_by, refl, sym, ap, ◌∙◌, arith, not, replicate}
use Rattle.std.specs.List.{list_any, range_with_len}
use Rattle.std.proofs.lemmas.List.Filters.{sum_by-filter_both}
use Rattle.std.proofs.lemmas.List.Sums.{count_by-le-length}
use Rattle.std.proofs.lemmas.List.{length-map, length-replicate}
use Rattle.std.proofs.lemmas.List.FromFn.{length-range_with_len}
use Rattle.fx_frame_base.specs.Frame.{Samples}
use Rattle.fx_cut.specs.PadExtents.{pad_length}
use Rattle.fx_cut.specs.FadeExtents.{effective}
use Rattle.fx_fixed.specs.Positions.{places_of}
use Rattle.fx_cut.specs.Fade.{stop_in, until}
use Rattle.fx_cut.specs.Pad.{is_inside}
use Rattle.fx_cut.specs.Trim.{keeps}
use Rattle.fx_tap_delays.proofs.MaxDelay.{largest-filled}
use Rattle.fx_plan_effects.specs.Effects.{Act, channels_after}
use Rattle.fx_plan_effects.specs.Registry.{OfTrim, OfPad, OfDelay, OfEcho, OfEchos, OfFade, OfUpsample, OfDownsample}
use Rattle.fx_plan_effects.specs.Meanings.{InPlace, meaning_at, max_of_act, recipe_at}
use Rattle.fx_plan_effects.specs.Bounds.{is_beyond_limit, maxima}
use Rattle.fx_plan_effects.proofs.Lasting.{within-fewer, within-here, within-next}
use Rattle.fx_chain_flow.specs.Composed.{composed, frames_of}
use Rattle.fx_chain_stages.specs.Made.{recipes_for}
pub use Rattle.fx_plan_lengths.proofs.Registered.{made_of, meaning-length}

until-maximum : (stop : Option ℕ) (n : ℕ) → until stop n ≤ n
until-maximum None n = omega arith
until-maximum (Some stop) n = omega arith

-- no more than the most
pub made-maximum : (a : Act) (n : ℕ) → made_of a n ≤ max_of_act a n
made-maximum (OfTrim ps) n = let bound = count_by-le-length (keeps (places_of n ps)) (range_with_len 0 n) in let all = length-range_with_len 0 n in omega (arith, bound, all)
made-maximum (OfPad pads) n = let all = sum_by-filter_both (is_inside n) (λ p. not (is_inside n p)) (λ p. refl) pad_length pads in omega (arith, all)
made-maximum (OfDelay ds) n = let same = largest-filled ds (1 - length ds) in omega (arith, same)
made-maximum (OfEcho e) n = omega arith
made-maximum (OfEchos e) n = omega arith
made-maximum (OfFade f) n = until-maximum (stop_in n (effective f.stop)) n
made-maximum (OfUpsample factor) n = omega arith
made-maximum (OfDownsample factor) n = omega arith
made-maximum other n = omega arith

-- what is so many as an effect makes of so many is as many as its definition gives
pub rest_unchanged : (a : Act) (frames n : ℕ) → n ≡ min (made_of a frames) (2 ^ 64 - 1) → (channels : ℕ) (xs : List Samples) → length xs ≡ frames
    → n ≡ min (length (meaning_at (recipe_at (InPlace channels a)) xs)) (2 ^ 64 - 1)
rest_unchanged a frames n h channels xs e = h ∙ ap (λ m. min m (2 ^ 64 - 1)) (ap (made_of a) (sym e) ∙ sym (meaning-length channels a xs))

-- what is as many frames as an effect makes of any sound of so many is as many as it makes of their number
pub by_number : (a : Act) (channels m n : ℕ)
    → ((sound : List Samples) → length sound ≡ m → n ≡ min (length (meaning_at (recipe_at (InPlace channels a)) sound)) (2 ^ 64 - 1))
    → n ≡ min (made_of a m) (2 ^ 64 - 1)
by_number a channels m n h =
    let sound : List Samples = replicate m [] in
    let long : length sound ≡ m = length-replicate m [] in
    h sound long ∙ ap (λ k. min k (2 ^ 64 - 1)) (meaning-length channels a sound ∙ ap (made_of a) long)

-- ---- effects in sequence

-- how many frames the last one makes, where each takes those that the one before makes
abbrev pub made_last : List Act → ℕ → ℕ
made_last [] n = n
made_last (a ∷ acts) n = made_last acts (made_of a n)

pub made-frames : (channels : ℕ) (a : Act) (x : List Samples) → length (frames_of (meaning_at (recipe_at (InPlace channels a)) x)) ≡ made_of a (length x)
made-frames channels a x = length-map (meaning_at (recipe_at (InPlace channels a)) x) _ ∙ meaning-length channels a x

pub composed-made : (channels : ℕ) (acts : List Act) (x : List Samples) → length (composed meaning_at (recipes_for channels acts) x) ≡ made_last acts (length x)
composed-made channels [] x = refl
composed-made channels (a ∷ acts) x =
    composed-made (channels_after channels a) acts (frames_of (meaning_at (recipe_at (InPlace channels a)) x)) ∙ ap (made_last acts) (made-frames channels a x)

-- where no more than the limit can come, no more than the limit is made, and then after the effect
pub made-within : (a : Act) (acts : List Act) (n : ℕ) → list_any is_beyond_limit (maxima (a ∷ acts) n) ≡ false → (made_of a n ≤ 2 ^ 56) × (list_any is_beyond_limit (maxima acts (made_of a n)) ≡ false)
made-within a acts n h =
    let next = within-next a acts n h in
    let maximum = within-here acts (max_of_act a n) next in
    let bound = made-maximum a n in
    (omega arith, within-fewer acts (made_of a n) (max_of_act a n) bound next)

-- Where the first of all effects takes n frames, those of `rest` take `now`: the last one makes as many.
pub record Along (acts rest : List Act) (now n : ℕ) : Type 0 where
  pub last : made_last rest now ≡ made_last acts n
  pub short : list_any is_beyond_limit (maxima rest now) ≡ false

pub along-more : (acts rest : List Act) (a : Act) (now next n : ℕ) → Along acts (a ∷ rest) now n → next ≡ min (made_of a now) (2 ^ 64 - 1) → Along acts rest next n
along-more acts rest a now next n c h =
    let within = made-within a rest now c.short in
    let bound = within.0 in
    let whole : min (made_of a now) (2 ^ 64 - 1) ≡ made_of a now = omega arith in
    let same : next ≡ made_of a now = h ∙ whole in
    record { last = ap (made_last rest) same ∙ c.last; short = rw same (within.1) }
