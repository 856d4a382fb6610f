use Rattle.std.proofs.Common.{◌≡◌}
use Rattle.tests_driving.proofs.driving.feed.Given as goal

abbrev pub invariant-samples : goal.invariant-samples
invariant-samples l = record {
  plan : l.chain.plan ≡ l.fn.chain.plan;
}
