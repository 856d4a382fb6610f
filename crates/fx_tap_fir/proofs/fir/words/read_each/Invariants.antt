use Rattle.std.proofs.Common.{◌≡◌, ◌+◌, ◌++◌, length}
use Rattle.fx_plan_words.specs.Faults.{word_texts}
use Rattle.fx_tap_fir.specs.FirWords.{gains_of, coefficient_faults}
use Rattle.fx_tap_fir.proofs.fir.words.read_each.Given as goal

abbrev pub decreases-loop-word : goal.decreases-loop-word
decreases-loop-word l = length l.rest

abbrev pub invariant-loop-word : goal.invariant-loop-word
invariant-loop-word l = record {
  faults : coefficient_faults l.number (word_texts l.rest) ≡ coefficient_faults 2 (word_texts l.words);
  values : l.gains.items ++ gains_of (word_texts l.rest) ≡ gains_of (word_texts l.words);
  kept : length l.gains.items + length l.rest ≡ length l.words;
  counted : l.number + length l.rest ≡ 2 + length l.words;
}
