use Rattle.std.proofs.Common.{◌≡◌, take, false}
use Rattle.std.specs.List.{list_any}
use Rattle.fx_fixed.specs.Words.{is_break}
use Rattle.fx_fixed.proofs.coefficient_files.word_end.Given as goal

abbrev pub invariant-loop-i : goal.invariant-loop-i
invariant-loop-i l = list_any is_break (take l.i l.text) ≡ false
