-- The effect `remix` (sox(1), EFFECTS, remix): each channel of the output is a sum of channels of the input, each times a
-- weight. That a share is an exact fraction, rounding and clips are this project's profile.
use Rattle.std.specs.Prelude.{ℕ, ℤ, pos, ◌*◌, ◌+ℤ◌, ◌*ℤ◌, ◌≤◌, Bool, false, List, [], ◌∷◌, length, map, slice_index_or, ◌^◌}
use Rattle.fx_fixed.specs.Rounding.{rounding}
use Rattle.fx_frame_base.specs.Frame.{Samples}
use Rattle.fx_frame_base.specs.Stage.{Given as GivenFrame, StageKind}
use Rattle.fx_frame_base.specs.Given.{given_samples}
use Rattle.fx_tap_pointwise.specs.declared.out_spec.Weight.{Weight}
use Rattle.fx_tap_pointwise.specs.declared.out_spec.Weight.TheVariants.{Given, Share, One}
use Rattle.fx_frame.specs.Kinds.{map_kind}

-- channels of the input, from 0, each with its weight
abbrev pub Contributions : Type 0
Contributions = List (ℕ × Weight)

-- a weight among n contributions in parts, n * 10 ^ 12 of which are one
abbrev pub remix_parts : ℕ → Weight → ℤ
remix_parts n (Given gain) = pos n *ℤ gain
remix_parts n Share = pos (10 ^ 12)
remix_parts n One = pos (n * 10 ^ 12)

-- the channels times their weights, in such parts, added
abbrev pub mixed_parts : ℕ → Contributions → Samples → ℤ
mixed_parts n [] frame = pos 0
mixed_parts n (c ∷ cs) frame = (remix_parts n c.1 *ℤ slice_index_or frame c.0 (pos 0)) +ℤ mixed_parts n cs frame

-- the sample of an output channel: silence where nothing contributes, else one exact fraction, rounded once
abbrev pub remixed_sample : Contributions → Samples → ℤ × Bool
remixed_sample [] frame = (pos 0, false)
remixed_sample (c ∷ cs) frame = rounding (mixed_parts (length (c ∷ cs)) (c ∷ cs) frame) (length (c ∷ cs) * 10 ^ 12)

-- the frame with one sample for each output channel
abbrev pub remixed_frame : List Contributions → Samples → GivenFrame
remixed_frame outs frame = given_samples (map (λ out. remixed_sample out frame) outs)

-- what `remix` gives for a sound
abbrev pub remix : List Contributions → List Samples → List GivenFrame
remix outs x = map (remixed_frame outs) x

-- what a `remix` is made with
pub record RemixArguments : Type 0 where
  pub channels : ℕ
  pub outs : List Contributions

-- its invariant
pub record IsRemix (a : RemixArguments) : Type 0 where
  pub some : 1 ≤ a.channels
  pub bound : a.channels ≤ 16
  pub some_outs : 1 ≤ length a.outs
  pub outs_max : length a.outs ≤ 16

-- what it takes and gives, and when each frame is due
abbrev pub remix_kind : RemixArguments → StageKind
remix_kind a = map_kind a.channels (length a.outs)

-- what it gives for a sound
abbrev pub remix_meaning : RemixArguments → List Samples → List GivenFrame
remix_meaning a x = remix a.outs x
