use Rattle.std.proofs.Common.{◌-◌}
use Rattle.fx_chain_flow.proofs.OneToOneRuns.{OneToOneRun}
use Rattle.fx_chain_flow.proofs.one_to_one.run_one_to_one.Given as goal

abbrev pub invariant-pieces : goal.invariant-pieces
invariant-pieces g l = OneToOneRun g.S.Stage.acts g.S.StageCalls.handed g.S.PassesWhile.passed_while g.met.S.Stage.rises l.channels l.count l.fn.stages l.input l.fn.output l.stages l.output l.done

abbrev pub decreases-pieces : goal.decreases-pieces
decreases-pieces g l = l.count - l.done
