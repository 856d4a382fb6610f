use Rattle.std.proofs.Common.{◌≡◌}
use Rattle.tests_driving.proofs.driving.settle.Given as goal

abbrev pub invariant-steps : goal.invariant-steps
invariant-steps l = record {
  plan : l.chain.plan ≡ l.fn.chain.plan;
}
