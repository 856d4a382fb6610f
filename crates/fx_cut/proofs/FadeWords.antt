-- The words of a `fade` without a fault are within the limits.
use Rattle.std.proofs.Common.{◌≡◌, ℕ, ◌^◌, ◌≤◌, true, List, [], ◌∷◌, refl}
use Rattle.std.specs.Result.{result_unwrap_or}
use Rattle.std.proofs.lemmas.Bool.{and_from, le-leb}
use Rattle.fx_fixed.specs.declared.positions.Anchor.TheVariants as anchors
use Rattle.fx_plan_words.specs.Faults.{Word, fault_at}
use Rattle.fx_plan_words.specs.Numbers.{beginning, frames_in, position_in}
use Rattle.fx_cut.specs.FadeWords.{fade_by, fade_of, in_faults, is_fade, stop_faults}
use Rattle.fx_plan_words.proofs.Ranges.{frames_near, kept, no_faults}

-- the lengths of a fade
pub fade_by-fits : (rate fade_in : ℕ) (words : List Word) → fade_in ≤ 2 ^ 40 → stop_faults rate words ≡ [] → is_fade (fade_by rate fade_in words) ≡ true
fade_by-fits rate fade_in [] near h = and_from _ _ (le-leb fade_in (2 ^ 40) near) (le-leb fade_in (2 ^ 40) near)
fade_by-fits rate fade_in (stop ∷ []) near h = and_from _ _ (le-leb fade_in (2 ^ 40) near) (le-leb fade_in (2 ^ 40) near)
fade_by-fits rate fade_in (stop ∷ word ∷ words) near h =
    let parts = no_faults (fault_at 4 (position_in rate anchors.Start beginning stop)) (fault_at 5 (frames_in rate word)) h in
    let out = kept (λ n. n ≤ 2 ^ 40) 5 (frames_in rate word) 0 parts.1 (frames_near rate word) in
    and_from _ _ (le-leb fade_in (2 ^ 40) near) (le-leb (result_unwrap_or (frames_in rate word) 0) (2 ^ 40) out)

pub fade_fits : (rate : ℕ) (words : List Word) → in_faults rate words ≡ [] → is_fade (fade_of rate words) ≡ true
fade_fits rate [] h = refl
fade_fits rate (word ∷ words) h =
    let parts = no_faults (fault_at 3 (frames_in rate word)) (stop_faults rate words) h in
    let near = kept (λ n. n ≤ 2 ^ 40) 3 (frames_in rate word) 0 parts.0 (frames_near rate word) in
    fade_by-fits rate (result_unwrap_or (frames_in rate word) 0) words near parts.1
