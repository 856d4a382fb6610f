use Rattle.std.proofs.Common.{◌≡◌, ◌∙◌, ap, cond, refl, sym, Bool, true, false, Bor, Option, Some, None, is_some, option_copied}
use Rattle.fx_plan.specs.declared.registry.Name.{Name}
use Rattle.fx_plan.specs.declared.registry.Name.TheVariants.{WholeSound, LeftOut, Other}
use Rattle.fx_plan.specs.Names.{name_of}
use Rattle.soxchain_common.specs.Effects.{is_of_effect}
use Rattle.soxchain_common.proofs.effects.effect_of.Goals as goal

-- what is copied is there where its original is
copied-there : {T : Type 0} (o : Option (Bor T)) → is_some o ≡ is_some (option_copied o)
copied-there None = refl
copied-there (Some x) = refl

-- one row more, and one name more
row-more : {T : Type 0} (is : Bool) (row : T) (rows : Option T) (name names : Name) → is_of_effect name ≡ true → is_some rows ≡ is_of_effect names
    → is_some (cond is (Some row) rows) ≡ is_of_effect (cond is name names)
row-more true row rows name names here h = sym here
row-more false row rows name names here h = h

-- no row for a name that is refused
row-none : (whole left : Bool) → false ≡ is_of_effect (cond whole WholeSound (cond left LeftOut Other))
row-none true left = refl
row-none false true = refl
row-none false false = refl

-- (the depth is a bound on the rows)
pub returns-clause-known : goal.returns-clause-known
unfolding name_of
returns-clause-known c = copied-there c.row_of.result ∙ ap is_some c.row_of.ensures.first ∙ search (row-more, row-none) depth 64
