use Rattle.std.proofs.Common.{◌≡◌, ◌+◌, length}
use Rattle.std.specs.List.{position_or_len}
use Rattle.fx_plan_words.specs.Faults.{word_texts}
use Rattle.fx_plan.specs.Names.{is_name}
use Rattle.fx_plan.proofs.groups.words_before_name.Given as goal

abbrev pub decreases-loop-word : goal.decreases-loop-word
decreases-loop-word l = length l.rest

abbrev pub invariant-loop-word : goal.invariant-loop-word
invariant-loop-word l = record {
  value : l.count + position_or_len is_name (word_texts l.rest) ≡ position_or_len is_name (word_texts l.words);
  counted : l.count + length l.rest ≡ length l.words;
}
