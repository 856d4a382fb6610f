use Rattle.std.proofs.Common.{◌∙◌, refl}
use Rattle.fx_fixed.proofs.count.count_frames.Goals as goal
use Rattle.fx_fixed.proofs.Counting.{counted}

pub whole_frames-requires-clause-number : goal.whole_frames-requires-clause-number
whole_frames-requires-clause-number c =
    (counted c.in-Some.number c.args.text.now (c.in-Some.ensures.form.0 refl) c.in-Some.ensures.value c.if-number-gt-RUN_DIGITS.false c.if-number-gt-RUN_DIGITS-2.false c.if-number-gt2.false).small

pub returns : goal.returns
returns c =
    c.whole_frames.ensures
    ∙ (counted c.in-Some.number c.args.text.now (c.in-Some.ensures.form.0 refl) c.in-Some.ensures.value c.if-number-gt-RUN_DIGITS.false c.if-number-gt-RUN_DIGITS-2.false c.if-number-gt2.false).value
