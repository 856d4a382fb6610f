-- The stages of effects, restored from what they stored and counted (this project's profile).
use Rattle.std.specs.Prelude.{◌≡◌, ◌≤◌, ◌^◌, ℕ, true}
use Rattle.fx_plan_effects.specs.Effects.{Act, Usable, act}
use Rattle.fx_plan_effects.specs.Meanings.{InPlace, Placed, line_of_act, recipe_at}
use Rattle.fx_chain_stages.specs.declared.thaw.EffectArguments.{EffectArguments}
use Rattle.fx_chain_stages.specs.Made.{suits}

-- an effect can be a stage that takes frames of `channels` channels, with a line within the limit
pub record FitsEffect (channels : ℕ) (a : Act) : Type 0 where
  pub some : 1 ≤ channels
  pub bound : channels ≤ 16
  pub usable : Usable a
  pub suits : suits channels a ≡ true
  pub line : line_of_act a ≤ 2 ^ 28

-- the effect in its place
abbrev pub placing : EffectArguments → Placed
placing arguments = InPlace arguments.channels (act arguments.effect)

-- what the arguments must satisfy
abbrev pub fits_stage : EffectArguments → Type 0
fits_stage arguments = FitsEffect arguments.channels (act arguments.effect)

-- the stage that they are for
abbrev pub recipe_with : EffectArguments → Placed
recipe_with arguments = recipe_at (placing arguments)
