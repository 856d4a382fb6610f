use Rattle.std.proofs.Common.{◌≡◌, ◌<◌, ◌≤◌, ◌+◌, ◌*◌, ◌^◌, ◌∙◌, List, ℕ, ℤ, pos, ◌+ℤ◌, ◌*ℤ◌, length, get_or, arith, unsigned_abs, slice_index_or}
use Rattle.std.proofs.lemmas.List.{get_or-map, length-map, length-set}
use Rattle.std.proofs.lemmas.List.Elements.{All-get_or}
use Rattle.fx_fixed.specs.declared.gains.TheConstants.{UNIT}
use Rattle.fx_frame_base.specs.Frame.{Samples}
use Rattle.fx_frame_line.specs.Line.{Frames, empty, pushed_out}
use Rattle.fx_tap_delays.specs.Echos.{decays}
use Rattle.fx_tap_delays.specs.EchosState.{after_push, fed, line_at, or_silence}
use Rattle.fx_tap_delays.proofs.EchosSeries.{Small, bound-more, bound-seven, left-step, lines-step, same-line, small-fed, small-frame, small-line_output, sums-step}
use Rattle.fx_frame_base.proofs.ListPlaces.{any-default}
use Rattle.fx_tap_delays.proofs.echos.pass.Goals as goal

pub feed-line_output-requires-clause-line : goal.feed-line_output-requires-clause-line
feed-line_output-requires-clause-line c =
    let read = any-default c.lines.lines c.lines.place c.index-lines-place.result (empty 0 0) (omega arith) ∙ same-line c.lines.place c.args.lines.now c.lines.lines c.lines.invariant.left in
    rw read (c.requires.lines c.lines.place (omega arith)).channels_are

pub add_line_output-requires-clause-small : goal.add_line_output-requires-clause-small
add_line_output-requires-clause-small c k =
    let p : ℕ = c.lines.place in
    let old : List (Frames ℤ) = c.args.lines.now in
    let lt : p < length old = c.lines-test.true in
    let read : get_or c.lines.lines p c.index-lines-place.result ≡ line_at old p = any-default c.lines.lines p c.index-lines-place.result (empty 0 0) (omega arith) ∙ same-line p old c.lines.lines c.lines.invariant.left in
    let line_output : c.feed-line_output.result ≡ or_silence c.args.channels (pushed_out (line_at old p) (fed c.args.channels c.args.frame c.lines.before)) = rw read at c.feed-line_output.ensures.line_output in
    let fed_small = small-fed c.args.channels p c.args.frame c.lines.before (small-frame c.args.frame c.channels-count.ensures.frame.fits) c.lines.invariant.before in
    let small = small-line_output c.args.channels p (line_at old p) (fed c.args.channels c.args.frame c.lines.before) (c.requires.lines p lt) fed_small k in
    let bound : p ≤ 6 = omega arith in
    rw line_output (omega (arith, small, bound))

pub lines-preserved : goal.lines-preserved
lines-preserved c =
    let p : ℕ = c.lines.place in
    let old : List (Frames ℤ) = c.args.lines.now in
    let lt : p < length old = c.lines-test.true in
    let read : get_or c.lines.lines p c.index-lines-place.result ≡ line_at old p = any-default c.lines.lines p c.index-lines-place.result (empty 0 0) (omega arith) ∙ same-line p old c.lines.lines c.lines.invariant.left in
    let u : Samples = fed c.args.channels c.args.frame c.lines.before in
    let line_output : c.feed-line_output.result ≡ or_silence c.args.channels (pushed_out (line_at old p) u) = rw read at c.feed-line_output.ensures.line_output in
    let line : c.feed-line_output.new.line ≡ after_push (line_at old p) u = rw read at c.feed-line_output.ensures.line in
    let fed_small = small-fed c.args.channels p c.args.frame c.lines.before (small-frame c.args.frame c.channels-count.ensures.frame.fits) c.lines.invariant.before in
    let small : Small ((p + 1) * 2 ^ 31) (or_silence c.args.channels (pushed_out (line_at old p) u)) = small-line_output c.args.channels p (line_at old p) u (c.requires.lines p lt) fed_small in
    let lt_taps : p < length c.args.taps.now = omega arith in
    let long = length-map c.args.taps.now (λ e. e.1) in
    let decay : get_or (decays c.args.taps.now) p (pos 0) ≡ (get_or c.args.taps.now p c.index-taps-place.result).1 = get_or-map (λ e. e.1) c.args.taps.now p c.index-taps-place.result (pos 0) lt_taps in
    let decay_bound : unsigned_abs (get_or c.args.taps.now p c.index-taps-place.result).1 ≤ UNIT = All-get_or (λ e. unsigned_abs e.1 ≤ UNIT) c.args.taps.now p c.index-taps-place.result lt_taps c.requires.decays in
    let g : ℕ → ℤ = λ k. get_or (or_silence c.args.channels (pushed_out (line_at old p) u)) k (pos 0) in
    let added : (k : ℕ) → k < c.args.channels → get_or c.add_line_output.new.sums k (pos 0) ≡ get_or c.lines.sums k (pos 0) +ℤ (get_or (decays c.args.taps.now) p (pos 0) *ℤ g k) = λ k l. rw (← line_output, decay) (c.add_line_output.ensures.added k l) in
    record {
      many = length-set c.lines.lines p c.feed-line_output.new.line ∙ c.lines.invariant.many;
      left = left-step p old c.lines.lines c.feed-line_output.new.line c.lines.invariant.left;
      lines = rw (line, line_output) (lines-step c.args.channels p old c.lines.lines c.args.frame c.lines.before _ lt c.lines.invariant.many c.lines.invariant.lines);
      before = rw line_output small;
      sums = λ k l. rw line_output (sums-step c.args.channels p k old (decays c.args.taps.now) c.args.frame c.lines.before (get_or c.lines.sums k (pos 0)) (get_or c.add_line_output.new.sums k (pos 0)) _ lt (omega arith) (added k l) (c.lines.invariant.sums k l));
      bound = λ k. bound-more p c.args.channels k (get_or c.lines.sums k (pos 0)) (get_or c.add_line_output.new.sums k (pos 0)) (get_or (decays c.args.taps.now) p (pos 0)) (g k) (rw decay decay_bound) (small k) (c.lines.invariant.bound k) (added k) (c.add_line_output.ensures.left k);
    }

pub returns-clause-small : goal.returns-clause-small
returns-clause-small c k = bound-seven c.lines.place (slice_index_or c.lines.sums k (pos 0)) (omega arith) (c.lines.invariant.bound k)
