-- Written by scripts/effects from effects/*.toml. Do not edit.
-- Each effect with its resolved arguments: what it does to the layout, the limits of its arguments, and what it settles in its
-- place (this project's profile).
use Rattle.std.specs.Prelude.{ℕ, ◌*◌, ◌/◌, ◌^◌, ◌<◌, ◌≤◌, nat_le, ◌&&◌, Bool, true, List, codes, length, ℤ, unsigned_abs, ⊤, Option, Some}
use Rattle.std.specs.List.{list_all}
use Rattle.fx_plan_effects.specs.declared.effect.Layout.{Layout}
use Rattle.fx_plan_effects.specs.declared.registry.Effect.{Effect}
use Rattle.fx_plan_effects.specs.declared.registry.Effect.TheVariants as effects
use Rattle.fx_plan_effects.specs.Determined.{Determined, determined}
use Rattle.fx_fixed.specs.declared.positions.At.{At}
use Rattle.fx_fixed.specs.declared.gains.TheConstants.{UNIT}
use Rattle.fx_cut.specs.Trim.{trim_kind, trim_meaning}
use Rattle.fx_cut.specs.PadWords.{Length, are_pads}
use Rattle.fx_cut.specs.Pad.{pad_kind, pad_meaning}
use Rattle.fx_cut.specs.FadeWords.{is_fade}
use Rattle.fx_cut.specs.declared.fade.words.Fading.{Fading}
use Rattle.fx_cut.specs.FadeExtents.{effective}
use Rattle.fx_cut.specs.Fade.{fade_kind, fade_meaning}
use Rattle.fx_cut.specs.Upsample.{upsample_kind, upsample_meaning}
use Rattle.fx_cut.specs.Downsample.{downsample_kind, downsample_meaning}
use Rattle.fx_tap_delays.specs.Delay.{delay_kind, delayed, every_delay}
use Rattle.fx_tap_delays.specs.EchoWords.{are_taps, echo_value}
use Rattle.fx_tap_delays.specs.Echo.{EchoValue, echo, echo_kind}
use Rattle.fx_tap_delays.specs.Echos.{echos, echos_kind}
use Rattle.fx_tap_pointwise.specs.PerSample.{sample_kind}
use Rattle.fx_tap_pointwise.specs.Vol.{vol_meaning}
use Rattle.fx_tap_pointwise.specs.DcShift.{dcshift_meaning}
use Rattle.fx_tap_pointwise.specs.RemixWords.{is_mix, specs_value}
use Rattle.fx_tap_pointwise.specs.declared.out_spec.Weight.{Weight}
use Rattle.fx_tap_pointwise.specs.Remix.{remix_kind, remix_meaning}
use Rattle.fx_tap_fir.specs.Fir.{filtered, fir_kind}

-- what an effect does, by its resolved arguments
pub data Act : Type 0 where
  OfTrim : List At → Act
  OfPad : List Length → Act
  OfDelay : List ℕ → Act
  OfEcho : EchoValue → Act
  OfEchos : EchoValue → Act
  OfFade : Fading → Act
  OfVol : ℤ → Act
  OfDcShift : ℤ → Act
  OfFir : List ℤ → Act
  OfRemix : List (List (ℕ × Weight)) → Act
  OfUpsample : ℕ → Act
  OfDownsample : ℕ → Act

abbrev pub act : Effect → Act
act (effects.Trim ps) = OfTrim ps.items
act (effects.Pad pads) = OfPad pads.items
act (effects.Delay ds) = OfDelay ds.items
act (effects.Echo e) = OfEcho (echo_value e)
act (effects.Echos e) = OfEchos (echo_value e)
act (effects.Fade fade) = OfFade fade
act (effects.Vol gain) = OfVol gain
act (effects.DcShift shift) = OfDcShift shift
act (effects.Fir gains) = OfFir gains.items
act (effects.Remix specs) = OfRemix (specs_value specs)
act (effects.Upsample factor) = OfUpsample factor
act (effects.Downsample factor) = OfDownsample factor

-- the layout after an effect, and without an effect
abbrev pub layout_after : Layout → Option Act → Layout
layout_after layout (Some (OfRemix specs)) = record layout { channels = length specs }
layout_after layout (Some (OfUpsample factor)) = record layout { rate = layout.rate * factor }
layout_after layout (Some (OfDownsample factor)) = record layout { rate = layout.rate / factor }
layout_after layout other = layout

-- the channels of the frames that an effect gives
abbrev pub channels_after : ℕ → Act → ℕ
channels_after channels (OfRemix specs) = length specs
channels_after channels other = channels

-- an effect that can follow a layout
abbrev pub Fits : Layout → Act → Type 0
Fits layout (OfRemix specs) = (1 ≤ length specs) × (length specs ≤ 16)
Fits layout (OfUpsample factor) = (1 ≤ factor) × (factor ≤ 256) × (layout.rate * factor < 2 ^ 32)
Fits layout (OfDownsample factor) = (1 ≤ factor) × (factor ≤ 256) × (factor ≤ layout.rate)
Fits layout other = ⊤

-- the arguments of an effect are within the limits
abbrev pub is_usable : Act → Bool
is_usable (OfRemix specs) = nat_le 1 (length specs) && nat_le (length specs) 16
is_usable (OfUpsample factor) = nat_le 1 factor && nat_le factor 256
is_usable (OfDownsample factor) = nat_le 1 factor && nat_le factor 256
is_usable other = true

-- an effect meets what its place after a layout requires
abbrev pub fits_layout : Layout → Act → Bool
fits_layout layout (OfPad pads) = are_pads pads
fits_layout layout (OfDelay ds) = nat_le (length ds) layout.channels
fits_layout layout (OfEcho e) = are_taps e
fits_layout layout (OfEchos e) = are_taps e
fits_layout layout (OfFade fade) = is_fade fade
fits_layout layout (OfDcShift shift) = nat_le (unsigned_abs shift) (2 * UNIT)
fits_layout layout (OfFir gains) = nat_le 1 (length gains) && nat_le (length gains) 1024
fits_layout layout (OfRemix specs) = list_all (is_mix layout.channels) specs
fits_layout layout other = true

-- the name of an effect
abbrev pub name_text : Act → List ℕ
name_text (OfTrim ps) = codes "trim"
name_text (OfPad pads) = codes "pad"
name_text (OfDelay ds) = codes "delay"
name_text (OfEcho e) = codes "echo"
name_text (OfEchos e) = codes "echos"
name_text (OfFade fade) = codes "fade"
name_text (OfVol gain) = codes "vol"
name_text (OfDcShift shift) = codes "dcshift"
name_text (OfFir gains) = codes "fir"
name_text (OfRemix specs) = codes "remix"
name_text (OfUpsample factor) = codes "upsample"
name_text (OfDownsample factor) = codes "downsample"

-- an effect in its place: the channels of the frames that it takes, and what it does
pub data Placed : Type 0 where
  InPlace : ℕ → Act → Placed

-- what an effect determines in its place
abbrev pub determined_at : Placed → Determined
determined_at (InPlace channels (OfTrim ps)) = determined trim_kind trim_meaning (record { channels = channels; positions = ps })
determined_at (InPlace channels (OfPad pads)) = determined pad_kind pad_meaning (record { channels = channels; pads = pads })
determined_at (InPlace channels (OfDelay ds)) = determined delay_kind delayed ds
determined_at (InPlace channels (OfEcho e)) = determined echo_kind echo (record { channels = channels; echo = e })
determined_at (InPlace channels (OfEchos e)) = determined echos_kind echos (record { channels = channels; echo = e })
determined_at (InPlace channels (OfFade fade)) = determined fade_kind fade_meaning (record { channels = channels; shape = record { fade_in = fade.fade_in; stop = fade.stop; fade_out = fade.fade_out } })
determined_at (InPlace channels (OfVol gain)) = determined sample_kind vol_meaning (record { channels = channels; sampling = gain })
determined_at (InPlace channels (OfDcShift shift)) = determined sample_kind dcshift_meaning (record { channels = channels; sampling = shift })
determined_at (InPlace channels (OfFir gains)) = determined fir_kind filtered (record { channels = channels; coefficients = gains })
determined_at (InPlace channels (OfRemix specs)) = determined remix_kind remix_meaning (record { channels = channels; outs = specs })
determined_at (InPlace channels (OfUpsample factor)) = determined upsample_kind upsample_meaning (record { channels = channels; factor = factor })
determined_at (InPlace channels (OfDownsample factor)) = determined downsample_kind downsample_meaning (record { channels = channels; factor = factor })

-- an effect as its stage keeps it
abbrev pub recipe_at : Placed → Placed
recipe_at (InPlace channels (OfDelay ds)) = InPlace channels (OfDelay (every_delay channels ds))
recipe_at (InPlace channels (OfFade fade)) = InPlace channels (OfFade (record fade { stop = effective fade.stop }))
recipe_at p = p
