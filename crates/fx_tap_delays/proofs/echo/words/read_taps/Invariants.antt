use Rattle.std.proofs.Common.{◌≡◌, ◌+◌, ◌++◌, length}
use Rattle.fx_plan_words.specs.Faults.{word_texts}
use Rattle.fx_tap_delays.specs.EchoWords.{taps, tap_faults}
use Rattle.fx_tap_delays.proofs.echo.words.read_taps.Given as goal

abbrev pub decreases-loop-delay : goal.decreases-loop-delay
decreases-loop-delay l = length l.rest

abbrev pub invariant-loop-delay : goal.invariant-loop-delay
invariant-loop-delay l = record {
  faults : tap_faults l.rate l.number (word_texts l.rest) ≡ tap_faults l.rate 4 (word_texts l.words);
  values : l.pairs.items ++ taps l.rate (word_texts l.rest) ≡ taps l.rate (word_texts l.words);
  counted : l.number + length l.rest ≡ 4 + length l.words;
}
