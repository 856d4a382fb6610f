use Rattle.std.proofs.Common.{arith, sym, ◌∙◌, string_bytes}
use Rattle.std.proofs.lemmas.Grind.{common_steps}
use Rattle.fx_plan_words.specs.Faults.{word_texts}
use Rattle.fx_tap_delays.proofs.EchoWords.{tap_faults-step}
use Rattle.fx_tap_delays.proofs.echo.words.read_taps.Goals as goal

pub loop-delay-preserved : goal.loop-delay-preserved
loop-delay-preserved c =
    let frames = rw c.deref.ensures at c.in-Ok.ensures in
    let gain = rw c.deref-in-Some.ensures at c.in-Ok-read_gain_up_to.ensures in
    let before = rw (c.in-Some.ensures.cases.0, c.in-Some-split_first.ensures.cases.0) at c.loop-delay.invariant.faults in
    record {
      faults = sym (tap_faults-step _ _ _ _ (string_bytes c.in-Some.delay.now) (string_bytes c.in-Some-split_first.decay.now)
          (word_texts c.in-Some-split_first.more.now) frames gain) ∙ before;
      values = grind (arith, common_steps);
      counted = grind (arith, common_steps);
    }
