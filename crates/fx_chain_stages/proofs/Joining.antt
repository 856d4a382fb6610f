-- When stages of one type are stages of any effect: what such a stage took, gave and was fed, the stage of any effect did.
use Rattle.std.proofs.Common.{◌≡◌, List, [], ◌∷◌, ◌++◌, ap, refl, ℕ, ℤ, Option, Some, None, FitsSigned, option_to_list}
use Rattle.std.specs.Int.{w32}
use Rattle.std.specs.List.{All}
use Rattle.std.proofs.lemmas.List.Elements.{All-append, All-cons, All-head, All-nil, All-tail}
use Rattle.fx_frame_base.proofs.FedLaws.{Fed-along, PassedOn-along}
use Rattle.fx_frame_base.proofs.PipelineLaws.{EachThrough-along}
use Rattle.fx_frame_base.specs.declared.feed.Passing.{Passing}
use Rattle.fx_frame_base.specs.Feed.{Fed, PassedOn}
use Rattle.fx_frame_base.specs.Frame.{Samples}
use Rattle.fx_frame_base.specs.PendingFrame.{IsPending}
use Rattle.fx_frame_line.specs.Line.{Frames, IsLine, IsSamples}
use Rattle.fx_frame_base.specs.Pipeline.{EachThrough}
use Rattle.fx_frame_base.specs.Stage.{Acts, kind}
use Rattle.fx_chain_stages.specs.declared.registry.EffectStage.{EffectStage}
use Rattle.fx_chain_stages.specs.declared.registry.EffectStage.TheVariants as stages
use Rattle.fx_plan_effects.specs.Meanings.{Placed, kind_at}
use Rattle.fx_chain_stages.specs.Stages.{Look, effect_acts, look, look_of, sound_of_stages}
use Rattle.fx_chain_stages.specs.Narrow.{AreNarrow, IsNarrow}
use Rattle.fx_tap_pointwise.specs.Mapped.{MapState}
use Rattle.fx_tap_pointwise.specs.Remix.{RemixArguments}

pub narrow-pending : (channels : ℕ) (pending : Option Samples) → IsPending channels pending → AreNarrow (option_to_list pending)
narrow-pending channels None h = All-nil (λ (x : Samples). All (FitsSigned w32) x)
narrow-pending channels (Some x) h = All-cons (λ (x : Samples). All (FitsSigned w32) x) x [] (h x refl).0.fits (All-nil (λ (x : Samples). All (FitsSigned w32) x))

narrow-frames : (channels : ℕ) (frames : List Samples) → All (IsSamples w32 channels) frames → AreNarrow frames
narrow-frames channels [] h = All-nil (λ (x : Samples). All (FitsSigned w32) x)
narrow-frames channels (x ∷ frames) h =
    All-cons (λ (x : Samples). All (FitsSigned w32) x) x frames (All-head (IsSamples w32 channels) x frames h).fits
    (narrow-frames channels frames (All-tail (IsSamples w32 channels) x frames h))

-- a line, and a pending frame
pub narrow-stored : (line : Frames ℤ) (channels : ℕ) (pending : Option Samples) → IsLine w32 line → IsPending channels pending → AreNarrow (line.items ++ option_to_list pending)
narrow-stored line channels pending l h = All-append (λ (x : Samples). All (FitsSigned w32) x) line.items (option_to_list pending) (narrow-frames line.channels line.items l.frames) (narrow-pending channels pending h)

-- the frames that a stage stores have 32 bits, and all but `remix` give as many channels as they take
pub record IsMember (s : EffectStage) : Type 0 where
  pub narrow : sound_of_stages s → IsNarrow s
  pub keeps : ((t : MapState RemixArguments) → s ≡ stages.Remix t → ⊥) → (kind effect_acts s).outputs ≡ (kind effect_acts s).inputs

-- stages that behave so are stages of any effect, under a variant and with a recipe of theirs
pub record Joins {S R : Type 0} (acts : Acts S R) (wrap : S → EffectStage) : Type 0 where
  pub named : R → Placed
  pub kinds : (r : R) → kind_at (named r) ≡ acts.kind_of r
  pub looks : (s : S) → look_of (wrap s) ≡ look acts named s

module _ {S R : Type 0} {acts : Acts S R} {wrap : S → EffectStage} (j : Joins acts wrap) where
  same_recipe : (s : S) → effect_acts.recipe (wrap s) ≡ j.named (acts.recipe s)
  same_recipe s = ap (λ (l : Look). l.recipe) (j.looks s)

  same_rest : (s : S) → effect_acts.rest (wrap s) ≡ acts.rest s
  same_rest s = ap (λ (l : Look). l.rest) (j.looks s)

  same_counts : (s : S) → effect_acts.counts (wrap s) ≡ acts.counts s
  same_counts s = ap (λ (l : Look). l.counts) (j.looks s)

  same_dry : (s : S) → effect_acts.dry (wrap s) ≡ acts.dry s
  same_dry s = ap (λ (l : Look). l.dry) (j.looks s)

  same_stored : (s : S) → effect_acts.stored (wrap s) ≡ acts.stored s
  same_stored s = ap (λ (l : Look). l.stored) (j.looks s)

  -- what one of them was passed or fed, alone and in sequence, the stage of any effect was
  pub passed : (r : Passing) (s s' : S) (x y : Samples) (e e' : EffectStage) → e ≡ wrap s → e' ≡ wrap s' → PassedOn acts r s s' x y → PassedOn effect_acts r e e' x y
  passed r s s' x y e e' first last was = rw (first, last) (PassedOn-along acts effect_acts wrap j.named same_recipe j.kinds same_rest same_counts same_dry same_stored r s s' x y was)

  pub fed : (s s' : S) (xs gs : List Samples) (e e' : EffectStage) → e ≡ wrap s → e' ≡ wrap s' → Fed acts s xs gs s' → Fed effect_acts e xs gs e'
  fed s s' xs gs e e' first last was = rw (first, last) (Fed-along acts effect_acts wrap j.named same_recipe j.kinds same_rest same_counts same_dry same_stored s s' xs gs was)

  pub through : (xs ys : List Samples) (s s' : S) (e e' : EffectStage) → e ≡ wrap s → e' ≡ wrap s' → EachThrough acts xs ys s s' → EachThrough effect_acts xs ys e e'
  through xs ys s s' e e' first last was = rw (first, last) (EachThrough-along acts effect_acts wrap j.named same_recipe j.kinds same_rest same_counts same_dry same_stored xs ys s s' was)

-- of stages that map or tap frames the prover wants it in these words
abbrev pub Passes : {S R : Type 0} → Acts S R → (S → EffectStage) → Type 0
Passes {S} acts wrap = (r : Passing) (s s' : S) (x y : Samples) → PassedOn acts r s s' x y → PassedOn effect_acts r (wrap s) (wrap s') x y

abbrev pub Runs : {S R : Type 0} → Acts S R → (S → EffectStage) → Type 0
Runs {S} acts wrap = (xs ys : List Samples) (s s' : S) → EachThrough acts xs ys s s' → EachThrough effect_acts xs ys (wrap s) (wrap s')
