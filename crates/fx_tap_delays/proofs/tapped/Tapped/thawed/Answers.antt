use Rattle.std.proofs.Common.{rules, refl, sym, ap, ◌∙◌, ◌≡◌, ◌+◌, true, min, length, length-append, arith, slice_index_or, option_to_list}
use Rattle.std.proofs.lemmas.Bool.Decides.{nat_tests}
use Rattle.fx_frame.specs.Numbers.{by_name}
use Rattle.fx_frame.specs.Tapped.{AreTapCounts}
use Rattle.fx_frame.proofs.CoreLaws.{IsCore-restored, core_of-numbers}
use Rattle.fx_frame.proofs.Counts.{eight-numbers, flag-back, times-flag}
use Rattle.fx_frame.proofs.TapLaws.{counts-are}
use Rattle.fx_tap_delays.proofs.tapped.Tapped.thawed.Goals as goal

pub returns-then-not-are_counts-clause-thawed : goal.returns-then-not-are_counts-clause-thawed
returns-then-not-are_counts-clause-thawed g c =
    λ s is same froze.
    let yes : c.are_counts.result ≡ true = c.are_counts.ensures.1 (rw (c.requires.reach, c.max_clips-maximum.ensures, c.of-numbers.ensures) (counts-are g.T.Tapping.taps s c.args.arguments c.args.frames.now c.args.numbers.now is same froze)) in
    absurd (cc)

pub returns-clause-frozen : goal.returns-clause-frozen
returns-clause-frozen g c =
    let st = rw c.of-numbers.ensures at c.in-Ok.ensures.found in
    let yes : c.are_counts.result ≡ true = search rules in
    let n : AreTapCounts c.args.reach c.max_clips-maximum.result (length c.args.frames.now) (by_name c.args.numbers.now) = rw c.of-numbers.ensures at (c.are_counts.ensures.0 yes) in
    let eight : length c.args.numbers.now ≡ 8 = search rules in
    let flag = flag-back (slice_index_or c.args.numbers.now 2 0) n.core.flag in
    rw (c.restored.ensures, c.of-numbers.ensures)
    record {
      stored = st.stored;
      counted = rw (flag, ← st.stored, ← n.all, st.pending_count_is) (eight-numbers c.args.numbers.now eight);
    }

pub returns-clause-thawed : goal.returns-clause-thawed
returns-clause-thawed g c =
    λ s is same freezes.
    let found = c.in-Ok.ensures.only s.line s.core.pending (record {
      lined = is.line;
      channels_are = is.channels ∙ ap g.T.Tapping.taps.channels same ∙ sym c.channels-channels.ensures.value;
      capacity_is = is.capacity ∙ ap g.T.Tapping.taps.reach same ∙ sym c.requires.reach;
      held = rw (c.channels-channels.ensures.value, ← same) is.core.fits;
      pending_count_is = rw (c.of-numbers.ensures, freezes.counted) refl;
      stored = freezes.stored;
    }) in
    rw (c.restored.ensures, c.of-numbers.ensures, found.0, found.1, freezes.counted, ← same, core_of-numbers s.core) refl

pub invariant_of-result : goal.invariant_of-result
invariant_of-result g c =
    let st = rw c.of-numbers.ensures at c.in-Ok.ensures.found in
    let yes : c.are_counts.result ≡ true = search rules in
    let n : AreTapCounts c.args.reach c.max_clips-maximum.result (length c.args.frames.now) (by_name c.args.numbers.now) = rw c.of-numbers.ensures at (c.are_counts.ensures.0 yes) in
    let all = ap length st.stored ∙ length-append c.in-Ok.stored.0.items (option_to_list c.in-Ok.stored.1) in
    let ended = slice_index_or c.args.numbers.now 2 0 in
    let held : length c.in-Ok.stored.0.items ≡ min (slice_index_or c.args.numbers.now 1 0 + slice_index_or c.args.numbers.now 6 0) c.args.reach = omega (arith, all, st.pending_count_is, n.all, n.held) in
    rw (c.restored.ensures, c.of-numbers.ensures)
    record {
      core = rw (← c.channels-channels.ensures.value, ← c.max_clips-maximum.ensures) (IsCore-restored _ _ _ _ n.core st.held st.pending_count_is);
      line = st.lined;
      channels = st.channels_are ∙ c.channels-channels.ensures.value;
      capacity = st.capacity_is ∙ c.requires.reach;
      counted = rw (st.pending_count_is, st.capacity_is) (n.counted ∙ ap (λ k. slice_index_or c.args.numbers.now 0 0 + k) (times-flag ended c.args.reach n.core.flag));
      held = rw (st.pending_count_is, st.capacity_is) held;
      not_ended = λ e. n.not_ended (grind (arith, nat_tests, n.core.flag));
    }
