use Rattle.std.proofs.Common.{rules, ◌≡◌, ◌+◌, ◌-◌, true, inl, inr, ap, ◌∙◌, arith, length, length-append, slice_index_or, option_to_list}
use Rattle.std.proofs.lemmas.Bool.Decides.{nat_tests}
use Rattle.std.proofs.lemmas.List.{length-reverse}
use Rattle.fx_tap_fir.specs.Fir.{centre}
use Rattle.fx_tap_fir.specs.FirState.{AreFirCounts}
use Rattle.fx_frame.specs.Numbers.{by_name}
use Rattle.fx_frame.proofs.CoreLaws.{IsCore-restored}
use Rattle.fx_frame.proofs.Counts.{eight-numbers, flag-back}
use Rattle.fx_tap_fir.proofs.FirLaws.{by_flag, counts-are, stored-is, thawed-is}
use Rattle.fx_tap_fir.proofs.fir.Fir.thaw.Goals as goal

pub returns-then-not-are_counts-clause-thawed : goal.returns-then-not-are_counts-clause-thawed
returns-then-not-are_counts-clause-thawed c s is made froze =
    let yes : c.are_counts.result ≡ true = c.are_counts.ensures.1 (rw c.of-numbers.ensures (counts-are s c.args.channels c.args.coefficients.now c.args.frames.now c.args.numbers.now is made froze)) in
    absurd (cc)

pub returns-in-Err-clause-thawed : goal.returns-in-Err-clause-thawed
returns-in-Err-clause-thawed c s is made froze =
    let stored = stored-is s c.args.channels c.args.coefficients.now c.args.frames.now c.args.numbers.now is made froze in
    elim c.in-Err.ensures.refused [ inl e ↦ e | inr e ↦ absurd (e.1 s.line s.core.pending (rw c.of-numbers.ensures stored)) ]

pub returns-clause-frozen : goal.returns-clause-frozen
returns-clause-frozen c =
    let st = rw c.of-numbers.ensures at c.in-Ok.ensures.found in
    let yes : c.are_counts.result ≡ true = search rules in
    let n : AreFirCounts (length c.args.coefficients.now) (length c.args.frames.now) (by_name c.args.numbers.now) = rw c.of-numbers.ensures at (c.are_counts.ensures.0 yes) in
    let eight : length c.args.numbers.now ≡ 8 = search rules in
    let flag = flag-back (slice_index_or c.args.numbers.now 2 0) n.core.flag in
    rw (c.restored.ensures, c.of-numbers.ensures)
    record {
      stored = st.stored;
      counted = rw (flag, ← st.stored, ← n.all, st.pending_count_is) (eight-numbers c.args.numbers.now eight);
    }

pub returns-clause-thawed : goal.returns-clause-thawed
returns-clause-thawed c s is made froze =
    let stored = stored-is s c.args.channels c.args.coefficients.now c.args.frames.now c.args.numbers.now is made froze in
    let same = c.in-Ok.ensures.only s.line s.core.pending (rw c.of-numbers.ensures stored) in
    rw (c.restored.ensures, c.of-numbers.ensures)
    (thawed-is s c.args.channels c.args.coefficients.now _ _ _ c.args.numbers.now made froze.counted same.0 same.1 c.in-Ok-of.ensures.value)

pub invariant_of-result : goal.invariant_of-result
invariant_of-result c =
    let st = rw c.of-numbers.ensures at c.in-Ok.ensures.found in
    let yes : c.are_counts.result ≡ true = search rules in
    let n : AreFirCounts (length c.args.coefficients.now) (length c.args.frames.now) (by_name c.args.numbers.now) = rw c.of-numbers.ensures at (c.are_counts.ensures.0 yes) in
    let all = ap length st.stored ∙ length-append c.in-Ok.stored.0.items (option_to_list c.in-Ok.stored.1) in
    let lined : length c.in-Ok.stored.0.items ≡ slice_index_or c.args.numbers.now 4 0 - slice_index_or c.args.numbers.now 6 0 = omega (arith, all, st.pending_count_is, n.all) in
    let size : length c.in-Ok-of.kernel ≡ length c.args.coefficients.now = ap length c.in-Ok-of.ensures.value ∙ length-reverse c.args.coefficients.now in
    let ended = slice_index_or c.args.numbers.now 2 0 in
    let made = slice_index_or c.args.numbers.now 1 0 + slice_index_or c.args.numbers.now 6 0 + slice_index_or c.args.numbers.now 5 0 in
    rw (c.restored.ensures, c.of-numbers.ensures)
    record {
      line = st.lined;
      channels = st.channels_are;
      capacity = omega (arith, st.capacity_is, size, c.requires.coefficients.0);
      count = omega (arith, size, c.requires.coefficients.1);
      small = search (rules, lined);
      held = omega (arith, lined, n.held, st.capacity_is);
      counted = rw (st.pending_count_is, size) (by_flag ended made (slice_index_or c.args.numbers.now 0 0) (centre (length c.args.coefficients.now)) n.core.flag n.running n.through);
      tail_held = omega (arith, lined, n.tail_held, n.held);
      tail_bound = omega (arith, size, n.tail_bound);
      not_ended = λ e. n.not_ended (grind (arith, nat_tests, n.core.flag));
      core = IsCore-restored _ _ _ _ n.core st.held st.pending_count_is;
    }
