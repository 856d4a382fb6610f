-- What is determined for a stage's whole lifetime, and the definition of its effect (this project's profile).
use Rattle.std.specs.Prelude.{List}
use Rattle.fx_frame_base.specs.Frame.{Samples}
use Rattle.fx_frame_base.specs.Stage.{Given, StageKind}

-- what is determined for a stage's whole lifetime, and the definition of its effect
pub record Determined : Type 0 where
  pub kind : StageKind
  pub meaning : List Samples → List Given

-- the same by the definitions of an effect
abbrev pub determined : {R : Type 0} → (R → StageKind) → (R → List Samples → List Given) → R → Determined
determined kind meaning r = record { kind = kind r; meaning = meaning r }
