use Rattle.std.proofs.Common.{arith, ◌∙◌, sym, refl, ◌≤◌, ◌<◌, ◌^◌}
use Rattle.std.specs.Char.{is_ascii_digit}
use Rattle.std.specs.List.{prefix_len}
use Rattle.fx_fixed.proofs.clock.clock_frames.Goals as goal
use Rattle.fx_fixed.proofs.Clocking.{clock_goes_on, clock_ends, clock_too_long, run_size, too_many}
use Rattle.fx_fixed.proofs.Powers.{seconds_more, seconds_fit}

pub returns-in_default : goal.returns-in_default
returns-in_default c =
    let long : 19 ≤ prefix_len is_ascii_digit c.loop-count.rest.now = grind arith in
    sym (clock_too_long c.args.rate c.loop-count.seconds c.loop-count._count c.loop-count.digits c.loop-count.rest.now long) ∙ c.loop-count.invariant.value

pub returns-in-None : goal.returns-in-None
returns-in-None c =
    let bound = c.in-Some.ensures.form.0 refl in
    let value = c.from.ensures ∙ c.in-Some.ensures.value in
    c.end_of_clock.ensures
    ∙ clock_ends c.args.rate c.loop-count.seconds c.loop-count._count c.loop-count.digits _ _ c.loop-count.rest.now c.in-Some.after.now c.loop-count-test.true bound c.in-Some.ensures.rest c.in-None.ensures value refl
    ∙ c.loop-count.invariant.value

pub loop-count-preserved : goal.loop-count-preserved
loop-count-preserved c =
    let bound = c.in-Some.ensures.form.0 refl in
    let value = c.from.ensures ∙ c.in-Some.ensures.value in
    let small : c.from.result < 10 ^ 18 = omega (arith, c.in-Some.ensures.bound) in
    record {
      value = clock_goes_on c.args.rate c.loop-count.seconds c.loop-count._count c.loop-count.digits _ _ c.loop-count.rest.now c.in-Some.after.now c.in-Some-after_byte.tail.now bound c.in-Some.ensures.rest c.in-Some-after_byte.ensures value refl ∙ c.loop-count.invariant.value;
      seconds = seconds_more c.loop-count.seconds c.from.result c.loop-count._count c.loop-count.invariant.seconds small;
      digits = omega (arith, run_size c.loop-count.rest.now c.in-Some.after.now c.in-Some.ensures.rest bound);
    }

pub returns : goal.returns
returns c = sym (too_many c.args.rate c.loop-count.seconds c.loop-count._count c.loop-count.digits c.loop-count.rest.now (omega arith)) ∙ c.loop-count.invariant.value

pub overflow_mul-seconds : goal.overflow_mul-seconds
overflow_mul-seconds c =
    let fit = seconds_fit c.loop-count.seconds 0 c.loop-count._count c.loop-count.invariant.seconds (omega arith) c.loop-count-test.true in
    omega arith

pub overflow_add-seconds : goal.overflow_add-seconds
overflow_add-seconds c =
    let small : c.from.result < 10 ^ 18 = omega (arith, c.in-Some.ensures.bound) in
    let fit = seconds_fit c.loop-count.seconds c.from.result c.loop-count._count c.loop-count.invariant.seconds small c.loop-count-test.true in
    omega arith

pub end_of_clock-requires-clause-seconds : goal.end_of_clock-requires-clause-seconds
end_of_clock-requires-clause-seconds c =
    let small : c.from.result < 10 ^ 18 = omega (arith, c.in-Some.ensures.bound) in
    seconds_fit c.loop-count.seconds c.from.result c.loop-count._count c.loop-count.invariant.seconds small c.loop-count-test.true
