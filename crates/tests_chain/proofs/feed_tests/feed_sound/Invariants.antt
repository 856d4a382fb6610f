use Rattle.std.proofs.Common.{◌≡◌}
use Rattle.tests_chain.proofs.feed_tests.feed_sound.Given as goal

abbrev pub invariant-pieces : goal.invariant-pieces
invariant-pieces l = record {
  fed : l.pair.fed.chain.plan.head.channels ≡ 1;
  stepped : l.pair.stepped.chain.plan.head.channels ≡ 1;
}
