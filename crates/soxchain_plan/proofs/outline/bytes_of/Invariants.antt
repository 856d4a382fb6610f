use Rattle.std.proofs.Common.{◌≡◌, ◌+◌, ◌*◌, sum_by, take}
use Rattle.soxchain_plan.specs.Outlines.{stated_bytes}
use Rattle.soxchain_plan.proofs.outline.bytes_of.Given as goal

abbrev pub invariant-loop-outline : goal.invariant-loop-outline
invariant-loop-outline l = l.bytes ≡ 4 * l.channels + sum_by stated_bytes (take l.outline-index l.outlines)
