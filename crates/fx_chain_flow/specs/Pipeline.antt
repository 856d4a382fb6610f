-- A frame that goes through stages in sequence, one after another (this project's profile).
use Rattle.std.specs.Prelude.{◌≡◌, ◌⊎◌, List, [], ◌∷◌, Option, Some, None}
use Rattle.fx_frame_base.specs.Feed.{GaveNext, IsHeld, TookNext}
use Rattle.fx_frame_base.specs.Frame.{Samples}
use Rattle.fx_frame_base.specs.Stage.{Acts, IsLined}

module _ {S R : Type 0} (acts : Acts S R) where
  -- each holds no more frames than the capacity of its line
  abbrev pub AllLined : List S → Type 0
  AllLined [] = Unit {0}
  AllLined (s ∷ stages) = IsLined acts s × AllLined stages

  -- each holds no more frames than it may
  abbrev pub AllHeld : List S → Type 0
  AllHeld [] = Unit {0}
  AllHeld (s ∷ stages) = IsHeld acts s × AllHeld stages

  -- it went through all of them, or one took it and gave none
  abbrev pub WentThrough : Samples → Option Samples → List S → List S → Type 0
  WentThrough frame out [] [] = out ≡ Some frame
  WentThrough frame out (s ∷ stages) (s' ∷ stages') =
      (TookNext acts s s' frame × (out ≡ None) × (stages' ≡ stages))
      ⊎ ((mid : S) × (next : Samples) × TookNext acts s mid frame × GaveNext acts mid s' next × WentThrough next out stages stages')
  WentThrough frame out old new = ⊥
