use Rattle.std.proofs.Common.{◌≡◌, ◌++◌, ◌≤◌, length, map}
use Rattle.std.specs.List.{list_all}
use Rattle.fx_fixed.specs.CoefficientFiles.{gain_in, is_gain, words_of}
use Rattle.fx_fixed.proofs.coefficient_files.Coefficients.parse.Given as goal

abbrev pub invariant-loop-word : goal.invariant-loop-word
invariant-loop-word l = record {
  accepted : list_all is_gain (words_of l.rest) ≡ list_all is_gain (words_of l.bytes);
  gains : l.gains.items ++ map gain_in (words_of l.rest) ≡ map gain_in (words_of l.bytes);
  bound : length l.gains.items ≤ 1024;
}

abbrev pub decreases-loop-word : goal.decreases-loop-word
decreases-loop-word l = length l.rest
