-- Written by scripts/effects from effects/*.toml. Do not edit.
-- The stage of each effect (this project's profile): what it shows of itself, and what holds of it at every moment.
use Rattle.std.specs.Prelude.{ℕ, ℤ, length}
use Rattle.fx_chain_stages.specs.declared.registry.EffectStage.{EffectStage}
use Rattle.fx_chain_stages.specs.declared.registry.EffectStage.TheVariants as stages
use Rattle.fx_plan_effects.specs.Registry.{OfTrim, OfPad, OfDelay, OfEcho, OfEchos, OfFade, OfVol, OfDcShift, OfFir, OfRemix, OfUpsample, OfDownsample}
use Rattle.fx_plan_effects.specs.Meanings.{InPlace}
use Rattle.fx_chain_stages.specs.Looks.{Look, look}
use Rattle.fx_cut.specs.Selected.{IsSelectedState}
use Rattle.fx_cut.specs.TrimState.{trim_acts, trim_selects}
use Rattle.fx_cut.specs.PadState.{IsPad, pad_acts}
use Rattle.fx_cut.specs.FadeState.{fade_acts, fade_selects}
use Rattle.fx_cut.specs.UpsampleState.{IsUpsample, upsample_acts}
use Rattle.fx_cut.specs.DownsampleState.{IsDownsample, downsample_acts}
use Rattle.fx_frame.specs.Tapped.{IsTapState}
use Rattle.fx_tap_delays.specs.DelayState.{delay_acts, delay_taps}
use Rattle.fx_tap_delays.specs.EchoState.{echo_acts, echo_taps}
use Rattle.fx_tap_delays.specs.EchosState.{IsEchos, echos_acts}
use Rattle.fx_tap_pointwise.specs.Mapped.{IsMapState}
use Rattle.fx_tap_pointwise.specs.PerSample.{SampleArguments}
use Rattle.fx_tap_pointwise.specs.VolState.{vol_acts}
use Rattle.fx_tap_pointwise.specs.DcShiftState.{dcshift_acts}
use Rattle.fx_tap_pointwise.specs.Remix.{RemixArguments}
use Rattle.fx_tap_pointwise.specs.RemixState.{remix_acts}
use Rattle.fx_tap_fir.specs.FirState.{IsFir, fir_acts}

-- the observable state of any stage
abbrev pub look_of : EffectStage → Look
look_of (stages.Trim s) = look trim_acts (λ r. InPlace r.channels (OfTrim r.positions)) s
look_of (stages.Pad s) = look pad_acts (λ r. InPlace r.channels (OfPad r.pads)) s
look_of (stages.Delay s) = look delay_acts (λ delays. InPlace (length delays) (OfDelay delays)) s
look_of (stages.Echo s) = look echo_acts (λ r. InPlace r.channels (OfEcho r.echo)) s
look_of (stages.Echos s) = look echos_acts (λ r. InPlace r.channels (OfEchos r.echo)) s
look_of (stages.Fade s) = look fade_acts (λ r. InPlace r.channels (OfFade (record { fade_in = r.shape.fade_in; stop = r.shape.stop; fade_out = r.shape.fade_out }))) s
look_of (stages.Vol s) = look vol_acts (λ r. InPlace r.channels (OfVol r.sampling)) s
look_of (stages.DcShift s) = look dcshift_acts (λ r. InPlace r.channels (OfDcShift r.sampling)) s
look_of (stages.Fir s) = look fir_acts (λ r. InPlace r.channels (OfFir r.coefficients)) s
look_of (stages.Remix s) = look remix_acts (λ r. InPlace r.channels (OfRemix r.outs)) s
look_of (stages.Upsample s) = look upsample_acts (λ r. InPlace r.channels (OfUpsample r.factor)) s
look_of (stages.Downsample s) = look downsample_acts (λ r. InPlace r.channels (OfDownsample r.factor)) s

-- how many of the frames that the stage holds may go on before as many others come: those of the line of one that gives or omits each
-- frame by its place
abbrev pub early_of : EffectStage → ℕ
early_of (stages.Trim s) = length s.line.items
early_of (stages.Fade s) = length s.line.items
early_of s = 0

-- the invariant of the stage
abbrev pub sound_of_stages : EffectStage → Type 0
sound_of_stages (stages.Trim s) = IsSelectedState trim_selects s
sound_of_stages (stages.Pad s) = IsPad s
sound_of_stages (stages.Delay s) = IsTapState delay_taps s
sound_of_stages (stages.Echo s) = IsTapState echo_taps s
sound_of_stages (stages.Echos s) = IsEchos s
sound_of_stages (stages.Fade s) = IsSelectedState fade_selects s
sound_of_stages (stages.Vol s) = IsMapState (λ (a : SampleArguments ℤ). a.channels) s
sound_of_stages (stages.DcShift s) = IsMapState (λ (a : SampleArguments ℤ). a.channels) s
sound_of_stages (stages.Fir s) = IsFir s
sound_of_stages (stages.Remix s) = IsMapState (λ (a : RemixArguments). length a.outs) s
sound_of_stages (stages.Upsample s) = IsUpsample s
sound_of_stages (stages.Downsample s) = IsDownsample s
