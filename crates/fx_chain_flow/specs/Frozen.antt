-- What a flow stores and counts (this project's profile): the frame of the inlet, then what each stage stores; eight
-- numbers of the inlet, then eight of each stage.
use Rattle.std.specs.Prelude.{ℕ, ◌+◌, Bool, Option, List, [], ◌∷◌, ◌++◌, ◌≡◌, cond, length, option_to_list}
use Rattle.fx_frame_base.specs.Frame.{Samples}
use Rattle.fx_frame_base.specs.Stage.{Acts, numbers_of}
use Rattle.fx_chain_flow.specs.Parts.{Parts}

-- of an inlet: the frames taken, the frames handed over, 1 after the end and else 0, and the frames stored
abbrev pub inlet_numbers : ℕ → Option Samples → Bool → List ℕ
inlet_numbers left frame ended = (left + length (option_to_list frame)) ∷ left ∷ cond ended 1 0 ∷ 0 ∷ length (option_to_list frame) ∷ 0 ∷ 0 ∷ 0 ∷ []

module _ {S R : Type 0} (acts : Acts S R) where
  -- the frames that the stages store, one stage after the other
  abbrev pub stored_all : List S → List Samples
  stored_all [] = []
  stored_all (s ∷ stages) = acts.stored s ++ stored_all stages

  -- eight numbers for each stage
  abbrev pub numbers_all : List S → List ℕ
  numbers_all [] = []
  numbers_all (s ∷ stages) = numbers_of acts s ++ numbers_all stages

  -- these are the frames and numbers of a flow
  pub record FreezesFlow (f : Parts S) (frames : List Samples) (numbers : List ℕ) : Type 0 where
    pub stored : frames ≡ option_to_list f.inlet ++ stored_all f.stages
    pub counted : numbers ≡ inlet_numbers f.left f.inlet f.ended ++ numbers_all f.stages

-- each stage was made with its arguments
abbrev pub AllMade : {A S : Type 0} → (A → S → Type 0) → List A → List S → Type 0
AllMade made [] [] = Unit {0}
AllMade made (a ∷ arguments) (s ∷ stages) = made a s × AllMade made arguments stages
AllMade made arguments stages = ⊥

-- the invariant of each stage
abbrev pub AllSound : {S : Type 0} → (S → Type 0) → List S → Type 0
AllSound sound [] = Unit {0}
AllSound sound (s ∷ stages) = sound s × AllSound sound stages
