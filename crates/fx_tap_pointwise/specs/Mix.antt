-- What `remix` keeps of the contributions to an output channel: of each its channel, its weight and the same in parts; and
-- how samples are computed from them.
use Rattle.std.specs.Prelude.{ℕ, ℤ, pos, ◌*◌, ◌<◌, ◌≡◌, Bool, List, [], ◌∷◌, length, map, slice_index_or}
use Rattle.fx_frame_base.specs.Lists.{pieces}
use Rattle.fx_tap_sums.specs.Products.{sum_of_products}
use Rattle.fx_tap_pointwise.specs.Remix.{remix_parts, remixed_sample}
use Rattle.fx_fixed.specs.declared.gains.TheConstants.{UNIT}
use Rattle.fx_tap_pointwise.specs.declared.out_spec.Weight.{Weight}
use Rattle.fx_tap_pointwise.specs.declared.out_spec.Weight.TheVariants.{Given}
use Rattle.fx_tap_pointwise.specs.declared.remix.Contribution.{Contribution}
use Rattle.fx_tap_pointwise.specs.declared.remix.Form.{Form}
use Rattle.fx_tap_pointwise.specs.declared.remix.Form.TheVariants.{Silent, Copied, Mean, Scaled, Small, Wide}
use Rattle.fx_tap_sums.specs.SmallWeights.{SumsAs}
use Rattle.fx_tap_sums.specs.Weights.{Weights}

-- its channel and weight
abbrev pub pair_of : Contribution → ℕ × Weight
pair_of c = (c.channel, c.weight)

-- its invariant among `count` contributions
pub record IsContribution (count : ℕ) (c : Contribution) : Type 0 where
  pub named : c.channel < 16
  pub parts : c.parts ≡ remix_parts count c.weight

-- the parts of each
abbrev pub all_parts : List Contribution → List ℤ
all_parts cs = map (λ c. c.parts) cs

-- that channel alone contributes, with a weight of one
pub record Copies (cs : List Contribution) (channel : ℕ) : Type 0 where
  pub weight : Weight
  pub alone : map pair_of cs ≡ (channel, weight) ∷ []
  pub whole : remix_parts 1 weight ≡ pos UNIT

-- that channel alone contributes, with that gain
abbrev pub Scales : List Contribution → ℕ → ℤ → Type 0
Scales cs channel gain = map pair_of cs ≡ (channel, Given gain) ∷ []

-- these two channels alone contribute, each with a weight of a half
pub record Means (cs : List Contribution) (first second : ℕ) : Type 0 where
  pub first_weight : Weight
  pub second_weight : Weight
  pub both : map pair_of cs ≡ (first, first_weight) ∷ (second, second_weight) ∷ []
  pub first_half : remix_parts 2 first_weight ≡ pos UNIT
  pub second_half : remix_parts 2 second_weight ≡ pos UNIT

-- something contributes, and its parts in lowest terms are those weights
pub record Reduces (cs : List Contribution) (weights : Weights) : Type 0 where
  pub some : 0 < length cs
  pub sums : SumsAs (all_parts cs) (length cs * UNIT) weights

-- the contributions have that form
abbrev pub MixFits : List Contribution → Form → Type 0
MixFits cs Silent = cs ≡ []
MixFits cs (Copied channel) = Copies cs channel
MixFits cs (Mean first second) = Means cs first second
MixFits cs (Scaled channel gain) = Scales cs channel gain
MixFits cs (Small weights) = Reduces cs weights
MixFits cs Wide = 0 < length cs

-- the samples of a frame that contribute
abbrev pub contributing_samples : List (ℕ × Weight) → List ℤ → List ℤ
contributing_samples cs frame = map (λ c. slice_index_or frame c.0 (pos 0)) cs

-- the sums of what contributes to each of the first frames, each sample times its weight
abbrev pub AreMixedSums : List (ℕ × Weight) → List ℤ → ℕ → ℕ → List ℤ → List ℤ → Type 0
AreMixedSums cs weights channels count frames sums =
    (i : ℕ) → i < count → slice_index_or sums i (pos 0) ≡ sum_of_products (contributing_samples cs (slice_index_or (pieces channels count frames) i [])) weights

-- the sample of an output channel that these contributions make of frame i
abbrev pub mixed_at : List (ℕ × Weight) → ℕ → ℕ → List ℤ → ℕ → ℤ × Bool
mixed_at cs channels count frames i = remixed_sample cs (slice_index_or (pieces channels count frames) i [])
