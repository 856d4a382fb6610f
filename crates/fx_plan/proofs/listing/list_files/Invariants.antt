use Rattle.std.proofs.Common.{◌≡◌, ◌++◌, length, map}
use Rattle.fx_plan.specs.CommandLines.{coefficient_files}
use Rattle.fx_plan_words.specs.Faults.{word_texts}
use Rattle.fx_plan.specs.Groups.{effects_of}
use Rattle.fx_plan.proofs.listing.list_files.Given as goal

abbrev pub decreases-loop-effect : goal.decreases-loop-effect
decreases-loop-effect l = length l.rest

abbrev pub invariant-loop-effect : goal.invariant-loop-effect
invariant-loop-effect l =
    map (λ name. name.now) l.names.items ++ coefficient_files (effects_of (word_texts l.rest)) ≡ coefficient_files (effects_of (word_texts l.words))
