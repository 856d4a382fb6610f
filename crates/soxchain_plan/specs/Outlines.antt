-- What soxchain-plan reports of sounds and effects (this project's profile).
use Rattle.std.specs.Prelude.{◌≡◌, ℕ, zero, suc, ◌+◌, ◌-◌, ◌*◌, ◌/◌, ◌^◌, ◌≤◌, List, [], ◌∷◌, Option, None, Some, length, map, min, sum}
use Rattle.std.specs.List.{All}
use Rattle.std.specs.Option.{option_map}
use Rattle.fx_frame_base.specs.Coding.{width_of}
use Rattle.fx_sound.specs.declared.head.Head.{Head}
use Rattle.fx_frame_base.specs.Frame.{Samples}
use Rattle.fx_plan_effects.specs.Bounds.{hold_all, hold_of_act}
use Rattle.fx_plan_effects.specs.Effects.{Act, channels_after, name_text}
use Rattle.fx_plan_effects.specs.Registry.{OfDownsample, OfEchos, OfFade, OfFir, OfPad, OfTrim, OfUpsample}
use Rattle.fx_plan_effects.specs.Meanings.{InPlace, Placed, line_of_act}
use Rattle.fx_tap_fir.specs.Fir.{centre}
use Rattle.fx_chain_flow.specs.Composed.{Whole}
use Rattle.fx_chain_stages.specs.Made.{placed_in}
use Rattle.fx_plan.specs.Planning.{Planning}
use Rattle.fx_chain.specs.Chain.{chain_gives, chain_wholes}
use Rattle.soxchain_plan.specs.declared.outline.EffectOutline.{EffectOutline}
use Rattle.soxchain_plan.specs.declared.outline.Outline.{Outline}
use Rattle.soxchain_plan.specs.declared.outline.SizeInHead.{SizeInHead}
use Rattle.soxchain_plan.specs.declared.outline.SizeInHead.TheVariants.{Zero, Unknown, Known}

-- the latency of an effect, in frames of its input (soxchain-plan(1), DESCRIPTION): effects with positions from the
-- end wait for that many more frames, and `fir` for the later half of its sum; every other effect gives its output at once
abbrev pub late_by : Act → ℕ
late_by (OfTrim positions) = line_of_act (OfTrim positions)
late_by (OfPad pads) = line_of_act (OfPad pads)
late_by (OfFade fade) = line_of_act (OfFade fade)
late_by (OfFir coefficients) = centre (length coefficients)
late_by other = 0

-- the name, the hold and the latency that are reported
abbrev pub stated : EffectOutline → List ℕ × ℕ × ℕ
stated effect = (effect.name.now, effect.hold, effect.late)

-- the name, the hold and the latency of an effect
abbrev pub known : Act → List ℕ × ℕ × ℕ
known act = (name_text act, hold_of_act act, late_by act)

-- the frames per second that an effect gives, where it takes `rate`: times the factor of `upsample`, or divided by that of
-- `downsample`, rounded down; every other leaves them unchanged. No accepted plan reaches the limit of 32 bits
abbrev pub rate_after : Act → ℕ → ℕ
rate_after (OfUpsample factor) rate = min (rate * factor) (2 ^ 32 - 1)
rate_after (OfDownsample factor) rate = rate / factor
rate_after other rate = rate

-- the frames per second of the input of each effect, the first of which takes `rate`
abbrev pub rates_along : ℕ → List Act → List ℕ
rates_along rate [] = []
rates_along rate (act ∷ acts) = rate ∷ rates_along (rate_after act rate) acts

-- the frames per second that are reported
abbrev pub stated_rate : EffectOutline → ℕ
stated_rate outline = outline.rate

-- the milliseconds of `frames` frames at a rate, rounded up; 0 where the rate is 0, as in no
-- accepted plan
abbrev pub milliseconds : ℕ → ℕ → ℕ
milliseconds frames rate = (frames * 1000 + rate - 1) / rate

-- the whole frames that a head announces
abbrev pub announced_frames : Head → Option ℕ
announced_frames head = option_map (λ bytes. bytes / (head.channels * width_of head.coding)) head.announced

-- what a head says of the size of its sound: no bytes, none that are known, or how many
abbrev pub size_in : Option ℕ → SizeInHead
size_in None = Unknown
size_in (Some zero) = Zero
size_in (Some (suc bytes)) = Known

-- a sound of just the frames that a head announces, no more than a run takes
pub record IsAnnounced (head : Head) (sound : List Samples) : Type 0 where
  pub announced : announced_frames head ≡ Some (length sound)
  pub bound : length sound ≤ 2 ^ 40

-- the bytes of a sample in the line of an effect: 64 bits in `echos`, else 32
abbrev pub sample_bytes : Act → ℕ
sample_bytes (OfEchos e) = 8
sample_bytes other = 4

-- the bytes of the samples that an effect in its place may hold: those of its line, and of one frame that it gives
abbrev pub held_bytes : Placed → ℕ
held_bytes (InPlace channels act) = line_of_act act * channels * sample_bytes act + channels_after channels act * 4

-- the same of each effect, the first of which takes frames of `channels` channels
abbrev pub bytes_along : ℕ → List Act → List ℕ
bytes_along channels acts = map held_bytes (placed_in channels acts)

-- the same of a whole chain: those of a frame before the first effect, and those of each effect
abbrev pub chain_bytes : Planning → ℕ
chain_bytes plan = 4 * plan.head.channels + sum (bytes_along plan.head.channels plan.acts)

-- the frames that an effect gives in all, as they are reported and by its definition
abbrev pub stated_frames : EffectOutline → Option ℕ
stated_frames outline = outline.frames

abbrev pub whole_frames : Whole → Option ℕ
whole_frames whole = Some whole.given

-- the bytes that are reported
abbrev pub stated_bytes : EffectOutline → ℕ
stated_bytes outline = outline.bytes

-- The content of a plan. Of a sound of up to 2^40 frames, just those that its head announces, the frames after each effect are
-- as many as its definition gives; where the head announces none they are not known.
pub record IsOutline (plan : Planning) (outline : Outline) : Type 0 where
  pub input_kind : outline.input.kind ≡ plan.head.kind
  pub input_rate : outline.input.rate ≡ plan.head.rate
  pub input_channels : outline.input.channels ≡ plan.head.channels
  pub input_bits : outline.input.bits ≡ 8 * width_of plan.head.coding
  pub input_frames : outline.input.frames ≡ announced_frames plan.head
  pub size : outline.size ≡ size_in plan.head.announced
  pub effects : map stated outline.effects.items ≡ map known plan.acts
  pub effect_rates : map stated_rate outline.effects.items ≡ rates_along plan.head.rate plan.acts
  pub effect_bytes : map stated_bytes outline.effects.items ≡ bytes_along plan.head.channels plan.acts
  pub effect_frames : (sound : List Samples) → IsAnnounced plan.head sound
      → map stated_frames outline.effects.items ≡ map whole_frames (chain_wholes plan sound)
  pub effect_unknown : announced_frames plan.head ≡ None → All (λ effect. effect.frames ≡ None) outline.effects.items
  pub hold : outline.hold ≡ hold_all plan.acts
  pub bytes : outline.bytes ≡ chain_bytes plan
  pub kind : outline.output.kind ≡ plan.kind
  pub rate : outline.output.rate ≡ plan.layout.rate
  pub channels : outline.output.channels ≡ plan.layout.channels
  pub bits : outline.output.bits ≡ 8 * width_of plan.coding
  pub frames : (sound : List Samples) → IsAnnounced plan.head sound → outline.output.frames ≡ Some (length (chain_gives plan sound))
  pub unknown : announced_frames plan.head ≡ None → outline.output.frames ≡ None
