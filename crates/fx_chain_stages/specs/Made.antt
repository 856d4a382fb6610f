-- The stages that the effects of a plan ask for (this project's profile).
use Rattle.std.specs.Prelude.{ℕ, Bool, List, [], ◌∷◌, map}
use Rattle.std.specs.List.{list_all}
use Rattle.fx_plan_effects.specs.Effects.{Act, channels_after, fits_layout}
use Rattle.fx_plan_effects.specs.Meanings.{InPlace, Placed, recipe_at}

-- effects with the channels of the frames that each takes, the first of which takes `channels` channels
abbrev pub placed_in : ℕ → List Act → List Placed
placed_in channels [] = []
placed_in channels (act ∷ acts) = InPlace channels act ∷ placed_in (channels_after channels act) acts

-- the stages of effects, the first of which takes frames of `channels` channels
abbrev pub recipes_for : ℕ → List Act → List Placed
recipes_for channels acts = map recipe_at (placed_in channels acts)

-- an effect can be a stage that takes frames of `channels` channels
abbrev pub suits : ℕ → Act → Bool
suits channels act = fits_layout (record { rate = 1; channels = channels }) act

-- the same of an effect in its place, and of effects, the first of which takes frames of `channels` channels
abbrev pub suits_at : Placed → Bool
suits_at (InPlace channels act) = suits channels act

abbrev pub all_suit : ℕ → List Act → Bool
all_suit channels acts = list_all suits_at (placed_in channels acts)
