use Rattle.std.proofs.Common.{◌≡◌, ◌+◌, ◌≤◌, length}
use Rattle.fx_plan_words.specs.Faults.{word_texts}
use Rattle.fx_plan.specs.Groups.{effects_of}
use Rattle.fx_plan.proofs.listing.count_effects.Given as goal

abbrev pub decreases-loop-more : goal.decreases-loop-more
decreases-loop-more l = length l.rest

abbrev pub invariant-loop-more : goal.invariant-loop-more
invariant-loop-more l = record {
  value : l.count + length (effects_of (word_texts l.rest)) ≡ length (effects_of (word_texts l.words));
  counted : l.count + length l.rest ≤ length l.words;
}
