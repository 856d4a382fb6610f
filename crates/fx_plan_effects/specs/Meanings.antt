-- What each effect determines in its place: what it takes and gives, and when each frame is due, and what it makes of a sound,
-- by its own definitions (this project's profile).
use Rattle.std.specs.Prelude.{ℕ, List}
use Rattle.fx_plan_effects.specs.Effects.{Act}
use Rattle.fx_frame_base.specs.Frame.{Samples}
use Rattle.fx_frame_base.specs.Stage.{Given, StageKind}
pub use Rattle.fx_plan_effects.specs.Registry.{Placed, InPlace, determined_at, recipe_at}
pub use Rattle.fx_plan_effects.specs.Determined.{Determined, determined}

abbrev pub kind_at : Placed → StageKind
kind_at p = (determined_at p).kind

abbrev pub meaning_at : Placed → List Samples → List Given
meaning_at p = (determined_at p).meaning

-- the frames that the line of an effect holds, and the maximum number of frames that it makes of n: the same for any number of
-- channels
abbrev pub line_of_act : Act → ℕ
line_of_act act = (kind_at (recipe_at (InPlace 1 act))).line

abbrev pub max_of_act : Act → ℕ → ℕ
max_of_act act = (kind_at (recipe_at (InPlace 1 act))).maximum
