-- Written by scripts/effects from effects/*.toml. Do not edit.
-- What is proved of the stage of each effect: which samples of the frames that it stores have 32 bits, the channels that it gives,
-- and that it is a stage of any effect.
use Rattle.std.proofs.Common.{refl, length}
use Rattle.fx_chain_stages.specs.declared.registry.EffectStage.{EffectStage}
use Rattle.fx_chain_stages.specs.declared.registry.EffectStage.TheVariants as stages
use Rattle.fx_plan_effects.specs.Registry.{OfTrim, OfPad, OfDelay, OfEcho, OfEchos, OfFade, OfVol, OfDcShift, OfFir, OfRemix, OfUpsample, OfDownsample}
use Rattle.fx_plan_effects.specs.Meanings.{InPlace}
use Rattle.fx_chain_stages.proofs.Joining.{IsMember, Joins, Passes, Runs, fed, narrow-pending, narrow-stored, passed, through}
use Rattle.fx_cut.specs.TrimState.{trim_acts}
use Rattle.fx_cut.specs.PadState.{pad_acts}
use Rattle.fx_cut.specs.FadeState.{fade_acts}
use Rattle.fx_cut.specs.UpsampleState.{upsample_acts}
use Rattle.fx_cut.specs.DownsampleState.{downsample_acts}
use Rattle.fx_tap_delays.specs.DelayState.{delay_acts}
use Rattle.fx_tap_delays.specs.EchoState.{echo_acts}
use Rattle.fx_tap_delays.specs.EchosState.{echos_acts}
use Rattle.fx_tap_pointwise.specs.VolState.{vol_acts}
use Rattle.fx_tap_pointwise.specs.DcShiftState.{dcshift_acts}
use Rattle.fx_tap_pointwise.specs.RemixState.{remix_acts}
use Rattle.fx_tap_fir.specs.FirState.{fir_acts}

pub is-member : (s : EffectStage) → IsMember s
is-member (stages.Trim s) = record { narrow = λ h. narrow-stored s.line _ s.core.pending h.line h.core.fits; keeps = λ other. refl }
is-member (stages.Pad s) = record { narrow = λ h. narrow-stored s.line _ s.core.pending h.line h.core.fits; keeps = λ other. refl }
is-member (stages.Delay s) = record { narrow = λ h. narrow-stored s.line _ s.core.pending h.line h.core.fits; keeps = λ other. refl }
is-member (stages.Echo s) = record { narrow = λ h. narrow-stored s.line _ s.core.pending h.line h.core.fits; keeps = λ other. refl }
is-member (stages.Echos s) = record { narrow = λ h. narrow-pending _ s.core.pending h.core.fits; keeps = λ other. refl }
is-member (stages.Fade s) = record { narrow = λ h. narrow-stored s.line _ s.core.pending h.line h.core.fits; keeps = λ other. refl }
is-member (stages.Vol s) = record { narrow = λ h. narrow-pending _ s.core.pending h.core.fits; keeps = λ other. refl }
is-member (stages.DcShift s) = record { narrow = λ h. narrow-pending _ s.core.pending h.core.fits; keeps = λ other. refl }
is-member (stages.Fir s) = record { narrow = λ h. narrow-stored s.line _ s.core.pending h.line h.core.fits; keeps = λ other. refl }
is-member (stages.Remix s) = record { narrow = λ h. narrow-pending _ s.core.pending h.core.fits; keeps = λ other. absurd (other s refl) }
is-member (stages.Upsample s) = record { narrow = λ h. narrow-pending _ s.core.pending h.core.fits; keeps = λ other. refl }
is-member (stages.Downsample s) = record { narrow = λ h. narrow-pending _ s.core.pending h.core.fits; keeps = λ other. refl }

pub trim-joins : Joins trim_acts stages.Trim
trim-joins = record { named = λ r. InPlace r.channels (OfTrim r.positions); kinds = λ r. refl; looks = λ s. refl }

pub pad-joins : Joins pad_acts stages.Pad
pad-joins = record { named = λ r. InPlace r.channels (OfPad r.pads); kinds = λ r. refl; looks = λ s. refl }

pub delay-joins : Joins delay_acts stages.Delay
delay-joins = record { named = λ delays. InPlace (length delays) (OfDelay delays); kinds = λ r. refl; looks = λ s. refl }

pub echo-joins : Joins echo_acts stages.Echo
echo-joins = record { named = λ r. InPlace r.channels (OfEcho r.echo); kinds = λ r. refl; looks = λ s. refl }

pub echos-joins : Joins echos_acts stages.Echos
echos-joins = record { named = λ r. InPlace r.channels (OfEchos r.echo); kinds = λ r. refl; looks = λ s. refl }

pub fade-joins : Joins fade_acts stages.Fade
fade-joins = record { named = λ r. InPlace r.channels (OfFade (record { fade_in = r.shape.fade_in; stop = r.shape.stop; fade_out = r.shape.fade_out })); kinds = λ r. refl; looks = λ s. refl }

pub vol-joins : Joins vol_acts stages.Vol
vol-joins = record { named = λ r. InPlace r.channels (OfVol r.sampling); kinds = λ r. refl; looks = λ s. refl }

pub dcshift-joins : Joins dcshift_acts stages.DcShift
dcshift-joins = record { named = λ r. InPlace r.channels (OfDcShift r.sampling); kinds = λ r. refl; looks = λ s. refl }

pub fir-joins : Joins fir_acts stages.Fir
fir-joins = record { named = λ r. InPlace r.channels (OfFir r.coefficients); kinds = λ r. refl; looks = λ s. refl }

pub remix-joins : Joins remix_acts stages.Remix
remix-joins = record { named = λ r. InPlace r.channels (OfRemix r.outs); kinds = λ r. refl; looks = λ s. refl }

pub upsample-joins : Joins upsample_acts stages.Upsample
upsample-joins = record { named = λ r. InPlace r.channels (OfUpsample r.factor); kinds = λ r. refl; looks = λ s. refl }

pub downsample-joins : Joins downsample_acts stages.Downsample
downsample-joins = record { named = λ r. InPlace r.channels (OfDownsample r.factor); kinds = λ r. refl; looks = λ s. refl }

pub trim-passed : Passes trim_acts stages.Trim
trim-passed r s s' x y was = passed trim-joins r s s' x y _ _ refl refl was

pub trim-through : Runs trim_acts stages.Trim
trim-through xs ys s s' was = through trim-joins xs ys s s' _ _ refl refl was

pub delay-passed : Passes delay_acts stages.Delay
delay-passed r s s' x y was = passed delay-joins r s s' x y _ _ refl refl was

pub delay-through : Runs delay_acts stages.Delay
delay-through xs ys s s' was = through delay-joins xs ys s s' _ _ refl refl was

pub echo-passed : Passes echo_acts stages.Echo
echo-passed r s s' x y was = passed echo-joins r s s' x y _ _ refl refl was

pub echo-through : Runs echo_acts stages.Echo
echo-through xs ys s s' was = through echo-joins xs ys s s' _ _ refl refl was

pub fade-passed : Passes fade_acts stages.Fade
fade-passed r s s' x y was = passed fade-joins r s s' x y _ _ refl refl was

pub fade-through : Runs fade_acts stages.Fade
fade-through xs ys s s' was = through fade-joins xs ys s s' _ _ refl refl was

pub vol-passed : Passes vol_acts stages.Vol
vol-passed r s s' x y was = passed vol-joins r s s' x y _ _ refl refl was

pub vol-through : Runs vol_acts stages.Vol
vol-through xs ys s s' was = through vol-joins xs ys s s' _ _ refl refl was

pub dcshift-passed : Passes dcshift_acts stages.DcShift
dcshift-passed r s s' x y was = passed dcshift-joins r s s' x y _ _ refl refl was

pub dcshift-through : Runs dcshift_acts stages.DcShift
dcshift-through xs ys s s' was = through dcshift-joins xs ys s s' _ _ refl refl was

pub remix-passed : Passes remix_acts stages.Remix
remix-passed r s s' x y was = passed remix-joins r s s' x y _ _ refl refl was

pub remix-through : Runs remix_acts stages.Remix
remix-through xs ys s s' was = through remix-joins xs ys s s' _ _ refl refl was

pub ruleset joined = (pad-joins, echos-joins, fir-joins, upsample-joins, downsample-joins)

pub ruleset joined_fed = (fed, joined)

pub ruleset joined_passed = (passed, joined, trim-passed, delay-passed, echo-passed, fade-passed, vol-passed, dcshift-passed, remix-passed)

pub ruleset joined_through = (through, joined, trim-through, delay-through, echo-through, fade-through, vol-through, dcshift-through, remix-through)
