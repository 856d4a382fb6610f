use Rattle.std.specs.Prelude.{ℕ, List, ◌++◌, ◌≡◌, Result, MatchResult}
use Rattle.fx_frame_base.specs.Frame.{Samples}
use Rattle.fx_frame_base.specs.Stage.{Acts}
use Rattle.fx_frame_base.specs.Holds.{kinds}
use Rattle.fx_frame_base.specs.declared.stage.ThawFault.{ThawFault}
use Rattle.fx_frame_base.specs.declared.stage.ThawFault.TheVariants.{Memory}
use Rattle.fx_chain_flow.specs.Frozen.{stored_all, numbers_all, AllMade, AllSound, FreezesFlow}
use Rattle.fx_chain_flow.specs.Parts.{Parts}
use Rattle.fx_chain_flow.specs.Sound.{IsPlanned, IsSound}

-- the stages out were made, and those that come after them have these frames and numbers
abbrev pub Thawing : {A S R : Type 0} → Acts S R → (S → Type 0) → (A → S → Type 0) → List S → List A → List Samples → List ℕ → List S → Type 0
Thawing {A} {S} acts sound made out coming frames numbers stages =
    (after : List S) × (out ++ after ≡ stages) × AllSound sound after × AllMade made coming after × (frames ≡ stored_all acts after) × (numbers ≡ numbers_all acts after)

-- this holds of what was restored, unless memory was refused
abbrev pub UnlessMemory : {A : Type 0} → Result A ThawFault → (A → Type 0) → Type 0
UnlessMemory result Holds = MatchResult result Holds (λ e. e ≡ Memory)

module _ {A S R : Type 0} (acts : Acts S R) (sound : S → Type 0) (made : A → S → Type 0) (arguments : List A) where
  -- this holds of whichever stages of these arguments stored these frames and counted these numbers
  abbrev pub WhereStored : List Samples → List ℕ → (List S → Type 0) → Type 0
  WhereStored frames numbers Holds = (stages : List S) → AllSound sound stages → AllMade made arguments stages → frames ≡ stored_all acts stages → numbers ≡ numbers_all acts stages → Holds stages

  -- whichever flow of stages of these arguments held these frames and counted these numbers, it is the result, unless memory is refused
  abbrev pub ThawsFlow : ℕ → List Samples → List ℕ → Result (Parts S) ThawFault → Type 0
  ThawsFlow channels frames numbers result =
      (f : Parts S) → IsSound acts f → AllSound sound f.stages → AllMade made arguments f.stages → f.channels ≡ channels → FreezesFlow acts f frames numbers → UnlessMemory result (λ t. t ≡ f)

-- stages of these arguments may form a pipeline that takes frames of these channels
abbrev pub MakePlanned : {A S R : Type 0} → Acts S R → (A → S → Type 0) → List A → ℕ → Type 0
MakePlanned {A} {S} acts made arguments channels = (stages : List S) → AllMade made arguments stages → IsPlanned (kinds acts stages) channels
