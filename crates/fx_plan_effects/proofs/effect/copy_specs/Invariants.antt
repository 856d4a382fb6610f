use Rattle.std.proofs.Common.{◌≡◌, ◌++◌, length}
use Rattle.fx_tap_pointwise.specs.RemixWords.{specs_in}
use Rattle.fx_plan_effects.proofs.effect.copy_specs.Given as goal

abbrev pub decreases-loop-spec : goal.decreases-loop-spec
decreases-loop-spec l = length l.rest

abbrev pub invariant-loop-spec : goal.invariant-loop-spec
invariant-loop-spec l = specs_in l.copies.items ++ specs_in l.rest ≡ specs_in l.specs
