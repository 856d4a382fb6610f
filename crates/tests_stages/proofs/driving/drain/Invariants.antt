use Rattle.std.proofs.Common.{◌≡◌, [], length}
use Rattle.tests_stages.proofs.driving.drain.Given as goal

abbrev pub decreases-given : goal.decreases-given
decreases-given g l = length (g.S.Stage.acts.rest l.stage [])

abbrev pub invariant-given : goal.invariant-given
invariant-given g l = g.S.Stage.acts.recipe l.stage ≡ g.S.Stage.acts.recipe l.fn.stage
