use Rattle.std.proofs.Common.{◌≡◌, ℕ, ◌+◌, ◌≤◌, List, ◌++◌, take, drop}
use Rattle.std.specs.Char.{is_ascii_digit}
use Rattle.std.specs.List.{prefix_len}
use Rattle.fx_fixed.specs.Kept.{Keeps}
use Rattle.fx_fixed.proofs.sums.Digits.read.Given as goal

abbrev pub invariant-loop-i : goal.invariant-loop-i
invariant-loop-i l = record {
  place : l.i + prefix_len is_ascii_digit (drop l.i l.text) ≡ prefix_len is_ascii_digit l.text;
  keeps : (ds : List ℕ) → Keeps l.fn.self ds → Keeps l.sum (ds ++ take l.i l.text);
  dropped : l.sum.dropped ≤ l.fn.self.dropped + l.i;
}
