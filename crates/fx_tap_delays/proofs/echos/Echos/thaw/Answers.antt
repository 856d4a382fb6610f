use Rattle.std.proofs.Common.{rules, ◌≡◌, ◌+◌, ◌∙◌, ap, true, arith, length, slice_index_or}
use Rattle.std.proofs.lemmas.Bool.Decides.{nat_tests}
use Rattle.fx_frame.specs.Numbers.{by_name}
use Rattle.fx_frame.proofs.CoreLaws.{IsCore-restored}
use Rattle.fx_frame.proofs.Counts.{eight-numbers, flag-back, times-flag}
use Rattle.fx_tap_delays.specs.DelayExtents.{sum_of_delays}
use Rattle.fx_tap_delays.specs.EchosStored.{AreEchosCounts}
use Rattle.fx_tap_delays.proofs.EchosThawed.{counts-are, series-is, thawed-is}
use Rattle.fx_tap_delays.proofs.echos.Echos.thaw.Goals as goal

pub returns-then-not-are_counts-clause-thawed : goal.returns-then-not-are_counts-clause-thawed
returns-then-not-are_counts-clause-thawed c =
    let whole : c.total_delay.result ≡ sum_of_delays c.args.taps.now = omega (arith, c.total_delay.ensures, c.requires.lines) in
    λ s is made froze.
    let yes : c.are_counts.result ≡ true = c.are_counts.ensures.1 (rw (whole, c.of-numbers.ensures) (counts-are s _ c.args.frames.now c.args.numbers.now is made froze)) in
    absurd (cc)

pub invariant_of-result : goal.invariant_of-result
invariant_of-result c =
    let st = rw c.of-numbers.ensures at c.in_ok-lines.ensures.found in
    let yes : c.are_counts.result ≡ true = search rules in
    let whole : c.total_delay.result ≡ sum_of_delays c.args.taps.now = omega (arith, c.total_delay.ensures, c.requires.lines) in
    let n : AreEchosCounts (sum_of_delays c.args.taps.now) (length c.args.frames.now) (by_name c.args.numbers.now) = rw (whole, c.of-numbers.ensures) at (c.are_counts.ensures.0 yes) in
    let ended = slice_index_or c.args.numbers.now 2 0 in
    let end = times-flag ended (sum_of_delays c.args.taps.now) n.core.flag in
    rw (c.in-Ok.ensures, c.restored.ensures, c.of-numbers.ensures) (
      record {
        arguments = c.requires.arguments;
        whole = c.requires.lines;
        as_many = st.series.as_many;
        lines = rw st.pending_count_is st.series.lines_are;
        counted = rw st.pending_count_is (n.counted ∙ ap (λ k. slice_index_or c.args.numbers.now 0 0 + k) end);
        not_ended = λ e. n.not_ended (grind (arith, nat_tests, n.core.flag));
        core = IsCore-restored _ _ _ _ n.core st.held st.pending_count_is;
      },
      search rules,
    )

pub returns-clause-frozen : goal.returns-clause-frozen
returns-clause-frozen c =
    let st = rw c.of-numbers.ensures at c.in_ok-lines.ensures.found in
    let yes : c.are_counts.result ≡ true = search rules in
    let whole : c.total_delay.result ≡ sum_of_delays c.args.taps.now = omega (arith, c.total_delay.ensures, c.requires.lines) in
    let n : AreEchosCounts (sum_of_delays c.args.taps.now) (length c.args.frames.now) (by_name c.args.numbers.now) = rw (whole, c.of-numbers.ensures) at (c.are_counts.ensures.0 yes) in
    let eight : length c.args.numbers.now ≡ 8 = search rules in
    let flag = flag-back (slice_index_or c.args.numbers.now 2 0) n.core.flag in
    rw (c.restored.ensures, c.of-numbers.ensures)
    record {
      stored = st.stored;
      counted = rw (flag, ← st.stored, ← n.all, st.pending_count_is) (eight-numbers c.args.numbers.now eight);
    }

pub returns-clause-thawed : goal.returns-clause-thawed
returns-clause-thawed c =
    λ s is made froze.
    let series = series-is s _ c.args.frames.now c.args.numbers.now is made froze in
    let same = c.in_ok-lines.ensures.only s.lines s.core.pending (rw c.of-numbers.ensures series) in
    rw (c.in-Ok.ensures, c.restored.ensures, c.of-numbers.ensures) (thawed-is s _ c.args.frames.now c.args.numbers.now is made froze _ _ same.0 same.1)
