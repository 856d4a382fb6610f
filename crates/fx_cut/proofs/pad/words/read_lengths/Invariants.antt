use Rattle.std.proofs.Common.{◌≡◌, ◌+◌, ◌++◌, length}
use Rattle.fx_plan_words.specs.Faults.{word_texts}
use Rattle.fx_plan_words.specs.Numbers.{beginning}
use Rattle.fx_cut.specs.PadWords.{word_lengths, length_faults}
use Rattle.fx_cut.proofs.pad.words.read_lengths.Given as goal

abbrev pub decreases-loop-word : goal.decreases-loop-word
decreases-loop-word l = length l.rest

abbrev pub invariant-loop-word : goal.invariant-loop-word
invariant-loop-word l = record {
  faults : length_faults l.rate l.number l.previous (word_texts l.rest) ≡ length_faults l.rate 2 beginning (word_texts l.words);
  values : l.pads.items ++ word_lengths l.rate l.number l.previous (word_texts l.rest) ≡ word_lengths l.rate 2 beginning (word_texts l.words);
  counted : l.number + length l.rest ≡ 2 + length l.words;
  kept : length l.pads.items + length l.rest ≡ length l.words;
}
