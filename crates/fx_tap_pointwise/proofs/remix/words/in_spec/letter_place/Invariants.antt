use Rattle.std.proofs.Common.{◌≡◌, ℕ, ◌<◌, get_or, false}
use Rattle.fx_tap_pointwise.specs.InSpecs.{is_letter}
use Rattle.fx_tap_pointwise.proofs.remix.words.in_spec.letter_place.Given as goal

abbrev pub invariant-loop-i : goal.invariant-loop-i
invariant-loop-i l = (k : ℕ) → k < l.i → is_letter (get_or l.text k 0) ≡ false
