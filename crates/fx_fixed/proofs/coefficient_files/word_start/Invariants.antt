use Rattle.std.proofs.Common.{◌≡◌, drop}
use Rattle.fx_fixed.specs.CoefficientFiles.{words_of}
use Rattle.fx_fixed.proofs.coefficient_files.word_start.Given as goal
use Rattle.fx_fixed.proofs.Wording.{words_after}

abbrev pub invariant-loop-i : goal.invariant-loop-i
invariant-loop-i l = words_after l.in_comment (drop l.i l.text) ≡ words_of l.text
