use Rattle.std.proofs.Common.{◌≡◌, ◌++◌, length}
use Rattle.fx_plan_words.specs.Faults.{word_texts}
use Rattle.fx_plan.proofs.command_line.copy_words.Given as goal

abbrev pub decreases-loop-word : goal.decreases-loop-word
decreases-loop-word l = length l.rest

abbrev pub invariant-loop-word : goal.invariant-loop-word
invariant-loop-word l = word_texts l.copies.items ++ word_texts l.rest ≡ word_texts l.words
