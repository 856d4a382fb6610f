use Rattle.std.proofs.Common.{arith, ◌∙◌, sym, refl, ◌≤◌}
use Rattle.std.specs.Char.{is_ascii_digit}
use Rattle.std.specs.List.{prefix_len}
use Rattle.fx_fixed.proofs.clock.end_of_clock.Goals as goal
use Rattle.fx_fixed.proofs.Clocking.{no_fraction, fraction_of_text, fraction_of_long_text}

pub returns-in-None : goal.returns-in-None
returns-in-None c = c.frames_at-in-None.ensures ∙ sym (no_fraction c.args.rate c.args.seconds c.args.digits c.args.rest.now c.in-None.ensures)

pub returns-in-Some-digit_run : goal.returns-in-Some-digit_run
returns-in-Some-digit_run c =
    let short = c.in-Some-digit_run.ensures.form.0 refl in
    c.frames_at.ensures ∙ sym (fraction_of_text c.args.rate c.args.seconds c.args.digits _ _ c.args.rest.now c.in-Some.text.now c.in-Some-digit_run.after.now c.in-Some.ensures short c.in-Some-digit_run.ensures.rest c.in-Some-digit_run.ensures.value refl)

pub returns-in_default : goal.returns-in_default
returns-in_default c =
    let long : 19 ≤ prefix_len is_ascii_digit c.in-Some.text.now = grind arith in
    sym (fraction_of_long_text c.args.rate c.args.seconds c.args.digits c.args.rest.now c.in-Some.text.now c.in-Some.ensures long)
