use Rattle.std.proofs.Common.{◌≡◌}
use Rattle.tests_freeze.proofs.freeze_tests.go_on_thawed.Given as goal

abbrev pub invariant-calls : goal.invariant-calls
invariant-calls l = record {
  plan : l.chain.plan ≡ l.fn.chain.plan;
}
