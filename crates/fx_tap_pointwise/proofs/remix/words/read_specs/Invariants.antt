use Rattle.std.proofs.Common.{◌≡◌, ◌+◌, ◌++◌, length, true}
use Rattle.std.specs.List.{list_all}
use Rattle.fx_plan_words.specs.Faults.{word_texts}
use Rattle.fx_tap_pointwise.specs.RemixWords.{is_mix, out_specs, spec_faults, specs_value}
use Rattle.fx_tap_pointwise.proofs.remix.words.read_specs.Given as goal

abbrev pub decreases-loop-word : goal.decreases-loop-word
decreases-loop-word l = length l.rest

abbrev pub invariant-loop-word : goal.invariant-loop-word
invariant-loop-word l = record {
  faults : spec_faults l.channels l.number (word_texts l.rest) ≡ spec_faults l.channels l.first (word_texts l.words);
  values : specs_value l.specs ++ out_specs l.channels l.mixing (word_texts l.rest) ≡ out_specs l.channels l.mixing (word_texts l.words);
  fit : list_all (is_mix l.channels) (specs_value l.specs) ≡ true;
  kept : length l.specs.items + length l.rest ≡ length l.words;
  counted : l.number + length l.rest ≡ l.first + length l.words;
}
