use Rattle.std.proofs.Common.{◌≡◌, length}
use Rattle.fx_plan.specs.Line.{front_of, texts, nothing_set}
use Rattle.fx_plan.proofs.line.read_front.Given as goal

abbrev pub decreases-loop-word : goal.decreases-loop-word
decreases-loop-word l = length l.rest

abbrev pub invariant-loop-word : goal.invariant-loop-word
invariant-loop-word l = front_of l.takes_bits l.set (texts l.rest) ≡ front_of l.takes_bits nothing_set (texts l.words)
