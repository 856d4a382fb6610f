use Rattle.std.proofs.Common.{◌≡◌}
use Rattle.tests_base.proofs.frame_tests.agrees.Given as goal

abbrev pub invariant-pushes : goal.invariant-pushes
invariant-pushes l = l.line.channels ≡ l.channels
