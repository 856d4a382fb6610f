use Rattle.std.proofs.Common.{◌≡◌, ◌+◌, drop, false}
use Rattle.fx_fixed.specs.TermEnd.{term_len}
use Rattle.fx_fixed.proofs.terms.term_end.Given as goal

abbrev pub invariant-loop-i : goal.invariant-loop-i
invariant-loop-i l = l.i + term_len l.after_mark (drop l.i l.text) ≡ term_len false l.text
