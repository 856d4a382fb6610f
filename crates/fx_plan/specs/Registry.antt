-- Written by scripts/effects from effects/*.toml. Do not edit.
-- The names of effects, those of sox(1), EFFECTS, that are left out, and what the words after a name state (this project's profile).
use Rattle.std.specs.Prelude.{ℕ, ◌||◌, if◌then◌else◌, List, [], ◌∷◌, codes, Option}
use Rattle.std.specs.Str.{bytes_eq}
use Rattle.fx_plan.specs.declared.registry.Name.{Name}
use Rattle.fx_plan.specs.declared.registry.Name.TheVariants as names
use Rattle.fx_plan.specs.Refusals.{is_one_of, refused, says, whole_sound}
use Rattle.fx_plan_words.specs.declared.fault.Mark.{Mark}
use Rattle.fx_plan_words.specs.declared.fault.PlanCause.TheVariants.{UnknownEffect, NotInProfile, NeedsWholeSound}
use Rattle.fx_plan_words.specs.Faults.{Word}
use Rattle.fx_plan_words.specs.Numbers.{beginning}
use Rattle.fx_plan_effects.specs.Registry.{Act, OfTrim, OfPad, OfDelay, OfEcho, OfEchos, OfFade, OfVol, OfDcShift, OfFir, OfRemix, OfUpsample, OfDownsample}
use Rattle.fx_plan_effects.specs.declared.effect.Layout.{Layout}
use Rattle.fx_cut.specs.TrimWords.{trim_faults, places}
use Rattle.fx_cut.specs.PadWords.{pad_faults, word_lengths}
use Rattle.fx_cut.specs.FadeWords.{fade_faults, fading}
use Rattle.fx_cut.specs.FactorWords.{upsample_faults, factor_of, usable, downsample_faults}
use Rattle.fx_tap_delays.specs.DelayWords.{delay_faults, delays}
use Rattle.fx_tap_delays.specs.EchoWords.{echo_faults, echoing}
use Rattle.fx_tap_pointwise.specs.VolWords.{vol_faults, vol_gain}
use Rattle.fx_tap_pointwise.specs.DcShiftWords.{shift_faults, shift_gain}
use Rattle.fx_tap_pointwise.specs.RemixWords.{remix_faults, remixed}
use Rattle.fx_tap_fir.specs.FirWords.{fir_faults, coefficients}

-- the filters of SoX that are not supported
unfoldable pub filters : List Word
filters =
    codes "allpass" ∷ codes "band" ∷ codes "bandpass" ∷ codes "bandreject" ∷ codes "bass" ∷ codes "biquad" ∷
    codes "deemph" ∷ codes "equalizer" ∷ codes "highpass" ∷ codes "hilbert" ∷ codes "lowpass" ∷ codes "riaa" ∷
    codes "sinc" ∷ codes "treble" ∷ []

-- the other effects of SoX that are left out
unfoldable pub others : List Word
others =
    codes "bend" ∷ codes "channels" ∷ codes "chorus" ∷ codes "compand" ∷ codes "contrast" ∷ codes "dither" ∷
    codes "earwax" ∷ codes "flanger" ∷ codes "gain" ∷ codes "ladspa" ∷ codes "loudness" ∷ codes "mcompand" ∷
    codes "noiseprof" ∷ codes "noisered" ∷ codes "oops" ∷ codes "overdrive" ∷ codes "phaser" ∷ codes "pitch" ∷
    codes "rate" ∷ codes "reverb" ∷ codes "silence" ∷ codes "spectrogram" ∷ codes "speed" ∷ codes "splice" ∷
    codes "stat" ∷ codes "stats" ∷ codes "stretch" ∷ codes "swap" ∷ codes "synth" ∷ codes "tempo" ∷
    codes "tremolo" ∷ codes "vad" ∷ []

abbrev pub refused_name : Word → Name
refused_name word =
    if is_one_of whole_sound word then names.WholeSound
    else (if is_one_of filters word || is_one_of others word then names.LeftOut
    else names.Other)

-- the kind of a word where a name is expected
unfoldable pub name_of : Word → Name
name_of word =
    if bytes_eq word (codes "trim") then names.Trim
    else (if bytes_eq word (codes "pad") then names.Pad
    else (if bytes_eq word (codes "delay") then names.Delay
    else (if bytes_eq word (codes "echo") then names.Echo
    else (if bytes_eq word (codes "echos") then names.Echos
    else (if bytes_eq word (codes "fade") then names.Fade
    else (if bytes_eq word (codes "vol") then names.Vol
    else (if bytes_eq word (codes "dcshift") then names.DcShift
    else (if bytes_eq word (codes "fir") then names.Fir
    else (if bytes_eq word (codes "remix") then names.Remix
    else (if bytes_eq word (codes "upsample") then names.Upsample
    else (if bytes_eq word (codes "downsample") then names.Downsample
    else refused_name word)))))))))))

-- the meaning of the words after a name: their faults, and what the effect does where there is none; a refused name is the
-- first fault
abbrev pub named : Name → Layout → List ℕ → List Word → List Mark × Option Act
named names.Trim layout file words = says (trim_faults layout.rate words) (OfTrim (places layout.rate beginning words))
named names.Pad layout file words = says (pad_faults layout.rate words) (OfPad (word_lengths layout.rate 2 beginning words))
named names.Delay layout file words = says (delay_faults layout.rate layout.channels words) (OfDelay (delays layout.rate 0 words))
named names.Echo layout file words = says (echo_faults layout.rate words) (OfEcho (echoing layout.rate words))
named names.Echos layout file words = says (echo_faults layout.rate words) (OfEchos (echoing layout.rate words))
named names.Fade layout file words = says (fade_faults layout.rate words) (OfFade (fading layout.rate words))
named names.Vol layout file words = says (vol_faults words) (OfVol (vol_gain words))
named names.DcShift layout file words = says (shift_faults words) (OfDcShift (shift_gain words))
named names.Fir layout file words = says (fir_faults file words) (OfFir (coefficients file words))
named names.Remix layout file words = says (remix_faults layout.channels words) (OfRemix (remixed layout.channels words))
named names.Upsample layout file words = says (upsample_faults layout.rate words) (OfUpsample (usable (factor_of words)))
named names.Downsample layout file words = says (downsample_faults layout.rate words) (OfDownsample (usable (factor_of words)))
named names.WholeSound layout file words = refused NeedsWholeSound
named names.LeftOut layout file words = refused NotInProfile
named names.Other layout file words = refused UnknownEffect
