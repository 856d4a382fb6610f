use Rattle.std.proofs.Common.{◌≡◌, ◌≤◌, ◌+◌, ℕ, Err, length, take}
use Rattle.fx_plan.specs.declared.line.LineFault.TheVariants.{BadOption}
use Rattle.fx_plan.specs.Line.{line_of_words, texts}
use Rattle.soxchain_plan.proofs.options.refused_place.Given as goal

abbrev pub invariant-loop-word : goal.invariant-loop-word
invariant-loop-word l = record {
  left : l.place + l._word-index ≡ length l.words;
  refused : (count : ℕ) → l.place ≤ count → line_of_words (take count (texts l.words)) ≡ Err BadOption;
}
