use Rattle.std.proofs.Common.{length, sym, arith}
use Rattle.std.proofs.lemmas.List.Sums.{position_or_len_is}
use Rattle.fx_tap_pointwise.specs.InSpecs.{is_letter}
use Rattle.fx_tap_pointwise.proofs.remix.words.in_spec.letter_place.Goals as goal

pub returns-clause-value : goal.returns-clause-value
returns-clause-value c =
    sym (position_or_len_is is_letter c.args.text.now (length c.args.text.now) 0 (omega arith) (grind (arith, c.loop-i.invariant)) (λ h. absurd (omega arith)))
