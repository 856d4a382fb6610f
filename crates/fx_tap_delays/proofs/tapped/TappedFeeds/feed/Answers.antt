use Rattle.std.proofs.Common.{rules, ◌≡◌, ◌+◌, ◌-◌, ◌*◌, ◌^◌, ◌≤◌, ap, ℕ, ℤ, false, length, refl, arith, ◌<◌, None}
use Rattle.std.proofs.Math.Nat.{mul-le-mul}
use Rattle.fx_frame_base.proofs.Pieces.{length-pieces}
use Rattle.fx_frame_base.proofs.Flags.{none-of}
use Rattle.fx_frame_base.proofs.Capacities.{free-grows}
use Rattle.fx_frame_line.specs.Line.{Frames}
use Rattle.fx_frame.proofs.TapBlocks.{IsTapState-block, block-fed}
use Rattle.fx_frame.proofs.WholeFrames.{both-have, no-more}
use Rattle.fx_tap_delays.proofs.tapped.TappedFeeds.feed.Given as given
use Rattle.fx_tap_delays.proofs.tapped.TappedFeeds.feed.Goals.{After-min-count}
use Rattle.fx_tap_delays.proofs.tapped.TappedFeeds.feed.Goals as goal

-- the input has so many frames, the output has room for them, and the effect may take them
frames : (g : given.Over) (c : After-min-count g) →
    let s = c.self-2.inside in
    let size = c.min-count.result * g.T.Tapping.taps.channels s.arguments in
    (size ≤ length c.args.input.now) × (size ≤ length c.args.output.now) × (s.core.taken + c.min-count.result ≤ 2 ^ 56)
frames g c =
    let channels : ℕ = c.channels-channels.result in
    let both = rw c.channels-channels.ensures.value at (both-have (length c.args.input.now) (length c.args.output.now) channels channels c.min-count.result c.min-count.ensures) in
    (both.0, both.1, (rw (← c.self-2.view_is) at c.requires.below_limit) c.min-count.result both.0)

pub invariant_of-self : goal.invariant_of-self
invariant_of-self g c =
    let s = c.self-2.inside in
    let none : s.core.pending ≡ None = none-of s.core.pending (search rules) in
    let (read, free, limit) = frames g (goal.at.invariant_of-self g c).After-min-count in
    let ensured = c.tap_many-clips.ensures in
    rw c.pass.ensures
    (IsTapState-block g.T.Tapping.taps _ c.tap_many-clips.new.line c.min-count.result c.tap_many-clips.result _ c.self-2.invariant none (search rules) limit (length-pieces (g.T.Tapping.taps.channels s.arguments) c.min-count.result c.args.input.now) c.len-held.ensures.line (ap (λ (l : Frames ℤ). l.items) ensured.line) (ap (λ (l : Frames ℤ). l.capacity) ensured.line) (ap (λ (l : Frames ℤ). l.channels) ensured.line) ensured.clips.bound)

pub feed_by_frames-requires : goal.feed_by_frames-requires
feed_by_frames-requires g c = record { channels = c.requires.channels; below_limit = c.requires.below_limit }

pub returns-then-is_pending : goal.returns-then-is_pending
returns-then-is_pending g c =
    let fed = c.feed_by_frames.ensures in
    record { fed = fed.fed; read = fed.read; written = fed.written; rest_unchanged = fed.rest_unchanged; dry = fed.dry; used = fed.used; free = fed.free }

pub nonzero_div-input : goal.nonzero_div-input
nonzero_div-input g c = omega (arith, c.channels-channels.ensures.some.0)

pub nonzero_div-output : goal.nonzero_div-output
nonzero_div-output g c = omega (arith, c.channels-channels.ensures.some.0)

pub tap_many-clips-requires : goal.tap_many-clips-requires
tap_many-clips-requires g c =
    let (read, free, limit) = frames g (goal.at.tap_many-clips-requires g c).After-min-count in
    record { line = record { channels = c.self-2.invariant.channels; capacity = c.self-2.invariant.capacity }; bound = omega (arith, limit); input = read; output = free }

pub pass-requires : goal.pass-requires
pass-requires g c =
    let s = c.self-2.inside in
    let over : s.core.ended ≡ false = search rules in
    let counted = rw over at c.self-2.invariant.counted in
    let bound : s.core.given ≤ 2 ^ 56 = omega (arith, counted, c.self-2.invariant.core.bound) in
    let all = mul-le-mul bound (g.met.T.Tapping.clips_max s.arguments) in
    let (read, free, limit) = frames g (goal.at.pass-requires g c).After-min-count in
    record {
      taken = omega (arith, limit);
      given = omega (arith, counted, limit);
      clips = omega (arith, all, limit, c.self-2.invariant.core.clips_max, c.tap_many-clips.ensures.clips.small);
    }

pub returns : goal.returns
returns g c =
    let s = c.self-2.inside in
    let is = c.self-2.invariant in
    let none : s.core.pending ≡ None = none-of s.core.pending (search rules) in
    let over : s.core.ended ≡ false = search rules in
    let no_tail : s.tail ≡ 0 = is.not_ended over in
    let counted = rw (none, over) at is.counted in
    let even : s.core.given ≡ s.core.taken = omega (arith, counted, no_tail) in
    let (read, free, limit) = frames g (goal.at.returns g c).After-min-count in
    let out : c.min-count.result * g.T.Tapping.taps.channels s.arguments ≤ length c.tap_many-clips.new.output = omega (arith, free, c.tap_many-clips.auto.output) in
    let some : 0 < c.channels-channels.result = omega (arith, c.channels-channels.ensures.some.0) in
    let ensured = c.tap_many-clips.ensures in
    rw (← c.self-2.view_is, c.pass.ensures)
    record {
      fed = block-fed g.T.Tapping.taps g.met.T.Tapping.near s.arguments _ c.tap_many-clips.new.line c.min-count.result c.tap_many-clips.result c.args.input.now c.tap_many-clips.new.output refl is none over out ensured.frames ensured.clips.counted (ap (λ (l : Frames ℤ). l.items) ensured.line) (ap (λ (l : Frames ℤ). l.capacity) ensured.line) (ap (λ (l : Frames ℤ). l.channels) ensured.line);
      read = read;
      written = out;
      rest_unchanged = ensured.rest_unchanged;
      dry = λ space. rw (none, no_tail) refl;
      used = rw (← c.channels-channels.ensures.value) (λ space going spent. no-more (length c.args.input.now) (length c.args.output.now) c.channels-channels.result c.channels-channels.result c.min-count.result some some c.min-count.ensures (omega (arith, space, c.tap_many-clips.auto.output)));
      free = λ n bound. free-grows (s.core.taken + n - s.core.given) c.min-count.result (g.T.Tapping.taps.channels s.arguments) (length c.args.output.now) (omega (arith, even, bound)) free;
    }
