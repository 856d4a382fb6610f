use Rattle.std.proofs.Common.{arith, ◌-◌}
use Rattle.fx_tap_sums.proofs.Residues.{same_less}
use Rattle.fx_tap_sums.proofs.transforms.remainders.reduced.Goals as goal

pub returns-then-number-clause-same : goal.returns-then-number-clause-same
returns-then-number-clause-same g c = same_less g.row.P c.args.number c.args.number 0 (omega arith)

pub returns-else-number-clause-same : goal.returns-else-number-clause-same
returns-else-number-clause-same g c = same_less g.row.P (c.args.number - g.row.P) c.args.number 1 (omega arith)
