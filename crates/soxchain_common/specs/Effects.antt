-- The names of effects for which the programs have texts (this project's profile).
use Rattle.std.specs.Prelude.{Bool, true, false}
use Rattle.fx_plan.specs.declared.registry.Name.{Name}
use Rattle.fx_plan.specs.declared.registry.Name.TheVariants.{WholeSound, LeftOut, Other}

-- a name is that of an effect that a plan may have: no other word, and no effect of SoX that is not supported
abbrev pub is_of_effect : Name → Bool
is_of_effect WholeSound = false
is_of_effect LeftOut = false
is_of_effect Other = false
is_of_effect name = true
