use Rattle.std.proofs.Common.{◌≡◌, ◌++◌, length}
use Rattle.fx_plan.specs.Line.{texts}
use Rattle.soxchain_c.specs.Making.{stream_words}
use Rattle.soxchain_c.proofs.planning.line_words.Given as goal

abbrev pub invariant-loop-word : goal.invariant-loop-word
invariant-loop-word l = texts l.line.items ++ texts l.rest ≡ stream_words (texts l.words)

abbrev pub decreases-loop-word : goal.decreases-loop-word
decreases-loop-word l = length l.rest
