-- Written by scripts/effects from effects/*.toml. Do not edit.
-- How many frames each effect makes of so many, by their number alone.
use Rattle.std.proofs.Common.{◌≡◌, ℕ, ◌+◌, ◌-◌, ◌*◌, List, [], map, length, filter, sum_by, ap, ◌∙◌}
use Rattle.std.proofs.lemmas.List.{length-map}
use Rattle.std.proofs.lemmas.List.Sums.{length-filter}
use Rattle.std.specs.Prelude.{slice_index_or}
use Rattle.std.specs.List.{range_with_len}
use Rattle.std.proofs.lemmas.List.FromFn.{length-range_with_len}
use Rattle.std.specs.Int.{div_ceil}
use Rattle.fx_frame_base.specs.Frame.{Samples}
use Rattle.fx_frame_base.specs.Given.{plain}
use Rattle.fx_frame_base.proofs.Tabulate.{length-tabulate}
use Rattle.fx_plan_effects.specs.Registry.{Act, OfTrim, OfPad, OfDelay, OfEcho, OfEchos, OfFade, OfVol, OfDcShift, OfFir, OfRemix, OfUpsample, OfDownsample}
use Rattle.fx_plan_effects.specs.Meanings.{InPlace, meaning_at, recipe_at}
use Rattle.fx_cut.specs.Trim.{keeps, trimmed}
use Rattle.fx_cut.specs.TrimState.{kept_count}
use Rattle.fx_cut.specs.PadExtents.{pad_length}
use Rattle.fx_cut.specs.Pad.{is_inside, padded}
use Rattle.fx_cut.specs.FadeExtents.{effective}
use Rattle.fx_cut.specs.Fade.{stop_in, until}
use Rattle.fx_fixed.specs.Positions.{places_of}
use Rattle.fx_fixed.specs.Extents.{largest}
use Rattle.fx_plan_lengths.proofs.Padded.{padded-length}
use Rattle.fx_tap_delays.specs.Delay.{every_delay}
use Rattle.fx_tap_delays.proofs.MaxDelay.{largest-filled}
use Rattle.fx_tap_delays.specs.DelayExtents.{tap_delay, sum_of_delays}

abbrev pub made_of : Act → ℕ → ℕ
made_of (OfTrim ps) n = kept_count ps n n
made_of (OfPad pads) n = n + sum_by pad_length (filter (is_inside n) pads)
made_of (OfDelay ds) n = n + largest ds
made_of (OfEcho e) n = n + largest (map tap_delay e.taps)
made_of (OfEchos e) n = n + sum_of_delays e.taps
made_of (OfFade fade) n = until (stop_in n (effective fade.stop)) n
made_of (OfUpsample factor) n = n * factor
made_of (OfDownsample factor) n = div_ceil n factor
made_of other n = n

pub meaning-length : (channels : ℕ) (a : Act) (x : List Samples) → length (meaning_at (recipe_at (InPlace channels a)) x) ≡ made_of a (length x)
meaning-length channels (OfTrim ps) x =
    length-map (trimmed ps x) plain
    ∙ length-map (filter (keeps (places_of (length x) ps)) (range_with_len 0 (length x))) (λ n. slice_index_or x n [])
    ∙ length-filter (keeps (places_of (length x) ps)) (range_with_len 0 (length x))
meaning-length channels (OfPad pads) x = length-map (padded channels pads x) plain ∙ padded-length channels pads x
meaning-length channels (OfDelay ds) x = length-tabulate _ 0 (length x + largest (every_delay channels ds)) ∙ ap (λ n. length x + n) (largest-filled ds (channels - length ds))
meaning-length channels (OfEcho e) x = length-tabulate _ 0 (length x + largest (map tap_delay e.taps))
meaning-length channels (OfEchos e) x = length-tabulate _ 0 (length x + sum_of_delays e.taps)
meaning-length channels (OfFade fade) x = length-map (range_with_len 0 (until (stop_in (length x) (effective fade.stop)) (length x))) _ ∙ length-range_with_len 0 (until (stop_in (length x) (effective fade.stop)) (length x))
meaning-length channels (OfVol gain) x = length-map x _
meaning-length channels (OfDcShift shift) x = length-map x _
meaning-length channels (OfFir gains) x = length-tabulate _ 0 (length x)
meaning-length channels (OfRemix specs) x = length-map x _
meaning-length channels (OfUpsample factor) x = length-tabulate _ 0 (length x * factor)
meaning-length channels (OfDownsample factor) x = length-tabulate _ 0 (div_ceil (length x) factor)
