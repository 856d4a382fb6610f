use Rattle.std.proofs.Common.{◌≡◌, ◌+◌, ◌++◌, length}
use Rattle.fx_plan_words.specs.Faults.{word_texts}
use Rattle.fx_tap_delays.specs.DelayWords.{delays, each_faults}
use Rattle.fx_tap_delays.proofs.delay.words.read_delays.Given as goal

abbrev pub decreases-loop-word : goal.decreases-loop-word
decreases-loop-word l = length l.rest

abbrev pub invariant-loop-word : goal.invariant-loop-word
invariant-loop-word l = record {
  faults : each_faults l.rate l.number l.previous (word_texts l.rest) ≡ each_faults l.rate 2 0 (word_texts l.words);
  values : l.frames.items ++ delays l.rate l.previous (word_texts l.rest) ≡ delays l.rate 0 (word_texts l.words);
  counted : l.number + length l.rest ≡ 2 + length l.words;
  kept : length l.frames.items + length l.rest ≡ length l.words;
}
