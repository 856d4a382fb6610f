use Rattle.std.proofs.Common.{rules, ◌≡◌, ◌+◌, ◌-◌, ◌*◌, ◌^◌, ◌≤◌, ◌∙◌, ap, false, length, refl, sym, arith, None}
use Rattle.fx_frame_base.specs.Lists.{pieces}
use Rattle.fx_tap_delays.proofs.EchosBlocks.{IsEchos-block, block-fed}
use Rattle.fx_tap_delays.proofs.EchosGiven.{length-series_lines}
use Rattle.fx_frame_base.proofs.Flags.{none-of}
use Rattle.fx_frame_base.proofs.Capacities.{free-grows}
use Rattle.fx_frame.proofs.WholeFrames.{both-have, no-more}
use Rattle.fx_frame_base.proofs.Puts.{written_back}
use Rattle.fx_tap_delays.proofs.echos.EchosFeeds.feed.Goals.{After-echo_many-clipped, After-min-count}
use Rattle.fx_tap_delays.proofs.echos.EchosFeeds.feed.Goals as goal

-- the input has so many frames, the output has room for them, and the effect may take them
frames : (c : After-min-count) →
    let s = c.self-2.inside in
    let n = c.min-count.result in
    (n * s.channels ≤ length c.args.input.now) × (n * s.channels ≤ length c.args.output.now) × (s.core.taken + n ≤ 2 ^ 56)
frames c =
    let both = both-have (length c.args.input.now) (length c.args.output.now) c.self-2.inside.channels c.self-2.inside.channels c.min-count.result c.min-count.ensures in
    (both.0, both.1, (rw (← c.self-2.view_is) at c.requires.below_limit) c.min-count.result both.0)

-- as many lines come back as went in
many : (c : After-echo_many-clipped) → length c.echo_many-clipped.new.lines ≡ length c.self-2.inside.lines.items
many c = ap length (rw c.deref_mut.ensures.value at c.echo_many-clipped.ensures.lines) ∙ length-series_lines c.self-2.inside.channels c.self-2.inside.lines.items (pieces c.self-2.inside.channels c.min-count.result c.args.input.now)

pub echo_many-clipped-requires-clause-lines : goal.echo_many-clipped-requires-clause-lines
echo_many-clipped-requires-clause-lines c = rw (c.deref_mut.ensures.value, c.deref.ensures.value) (_, c.self-2.invariant.0.lines)

pub echo_many-clipped-requires-clause-bound : goal.echo_many-clipped-requires-clause-bound
echo_many-clipped-requires-clause-bound c =
    let (read, free, limit) = frames (goal.at.echo_many-clipped-requires-clause-bound c).After-min-count in
    omega (arith, limit)

pub invariant_of-self : goal.invariant_of-self
invariant_of-self c =
    let s = c.self-2.inside in
    let is = c.self-2.invariant.0 in
    let none : s.core.pending ≡ None = none-of s.core.pending (search rules) in
    let over : s.core.ended ≡ false = search rules in
    let size = many (goal.at.invariant_of-self c).After-echo_many-clipped in
    let (read, free, limit) = frames (goal.at.invariant_of-self c).After-min-count in
    let sound = rw (c.deref_mut.ensures.value, c.deref.ensures.value) at c.echo_many-clipped.ensures.sound in
    rw (written_back s.lines.items c.echo_many-clipped.new.lines s.lines.len s.lines.ok.0 size, c.pass.ensures)
    (IsEchos-block _ c.echo_many-clipped.new.lines c.min-count.result c.echo_many-clipped.result is none over limit size (sound _ is.lines) c.echo_many-clipped.ensures.bound, c.self-2.invariant.1)

pub pass-requires-clause-clips : goal.pass-requires-clause-clips
pass-requires-clause-clips c =
    let over : c.self-2.inside.core.ended ≡ false = search rules in
    let counted = rw over at c.self-2.invariant.0.counted in
    let (read, free, limit) = frames (goal.at.pass-requires-clause-clips c).After-min-count in
    omega (arith, counted, limit, c.self-2.invariant.0.core.clips_max, c.echo_many-clipped.ensures.bound)

pub returns : goal.returns
returns c =
    let s = c.self-2.inside in
    let is = c.self-2.invariant.0 in
    let none : s.core.pending ≡ None = none-of s.core.pending (search rules) in
    let over : s.core.ended ≡ false = search rules in
    let size = many (goal.at.returns c).After-echo_many-clipped in
    let (read, free, limit) = frames (goal.at.returns c).After-min-count in
    let no_tail : s.tail ≡ 0 = is.not_ended over in
    let counted : s.core.given + 0 + s.tail ≡ s.core.taken + 0 = rw (none, over) at is.counted in
    let even : s.core.given ≡ s.core.taken = omega (arith, counted, no_tail) in
    let suits = rw c.in-Some.is at c.self-2.invariant.1 in
    let lines = rw c.deref_mut.ensures.value at c.echo_many-clipped.ensures.lines in
    let given = rw c.deref_mut.ensures.value at c.echo_many-clipped.ensures.frames in
    let clips = rw c.deref_mut.ensures.value at c.echo_many-clipped.ensures.clips in
    let some = rw (← c.self-2.view_is) at c.requires.channels in
    rw (← c.self-2.view_is, c.pass.ensures)
    record {
      fed = rw (written_back s.lines.items c.echo_many-clipped.new.lines s.lines.len s.lines.ok.0 size)
          (block-fed _ c.echo_many-clipped.new.lines is none over c.min-count.result c.echo_many-clipped.result c.args.input.now c.echo_many-clipped.new.output (given _ suits refl (sym is.as_many)) (clips _ suits refl (sym is.as_many)) lines);
      read = read;
      written = omega (arith, free, c.echo_many-clipped.auto.output);
      rest_unchanged = c.echo_many-clipped.ensures.rest_unchanged;
      dry = λ space. rw (none, no_tail) refl;
      used = λ space going spent. no-more (length c.args.input.now) (length c.args.output.now) s.channels s.channels c.min-count.result (omega (arith, some.0)) (omega (arith, some.0)) c.min-count.ensures (omega (arith, space, c.echo_many-clipped.auto.output));
      free = λ n bound. free-grows (s.core.taken + n - s.core.given) c.min-count.result s.channels (length c.args.output.now) (omega (arith, even, bound)) free;
    }
