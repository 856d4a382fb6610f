use Rattle.std.proofs.Common.{◌≡◌}
use Rattle.tests_stages.proofs.driving.feed.Given as goal

abbrev pub invariant-frames : goal.invariant-frames
invariant-frames g l = g.S.Stage.acts.recipe l.stage ≡ g.S.Stage.acts.recipe l.fn.stage
