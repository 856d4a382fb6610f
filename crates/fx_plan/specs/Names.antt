-- The names of effects: those of this project's profile, and those of sox(1), EFFECTS, that are not supported; and the meaning
-- of the words after a name.
use Rattle.std.specs.Prelude.{ℕ, Bool, true, false, not, List, [], ◌∷◌, Option, None}
use Rattle.fx_plan.specs.declared.registry.Name.{Name}
use Rattle.fx_plan.specs.declared.registry.Name.TheVariants as names
use Rattle.fx_plan_words.specs.declared.fault.Mark.{Mark}
use Rattle.fx_plan_words.specs.Faults.{Word}
use Rattle.fx_plan_effects.specs.Effects.{Act}
use Rattle.fx_plan_effects.specs.declared.effect.Layout.{Layout}
pub use Rattle.fx_plan.specs.Refusals.{is_one_of, says, refused}
unfoldable pub use Rattle.fx_plan.specs.Refusals.{whole_sound}
pub use Rattle.fx_plan.specs.Registry.{refused_name, named}
unfoldable pub use Rattle.fx_plan.specs.Registry.{filters, others, name_of}

-- a word is the name of an effect, supported or not
abbrev pub is_other : Name → Bool
is_other names.Other = true
is_other name = false

abbrev pub is_name : Word → Bool
is_name word = not (is_other (name_of word))

-- the same for the words of an effect, of which its name is the first
abbrev pub effect_faults : Layout → List ℕ → List Word → List Mark
effect_faults layout file [] = []
effect_faults layout file (name ∷ words) = (named (name_of name) layout file words).0

abbrev pub effect_act : Layout → List ℕ → List Word → Option Act
effect_act layout file [] = None
effect_act layout file (name ∷ words) = (named (name_of name) layout file words).1
