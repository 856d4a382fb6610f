use Rattle.std.proofs.Common.{rules, ◌≡◌, ◌+◌, ◌-◌, ◌≤◌, ap, ℕ, ℤ, false, length, refl, reverse, arith, None}
use Rattle.std.proofs.lemmas.List.{length-reverse}
use Rattle.fx_frame_base.specs.Lists.{pieces}
use Rattle.fx_frame_base.proofs.Pieces.{length-pieces}
use Rattle.fx_tap_fir.specs.Fir.{centre}
use Rattle.fx_tap_fir.specs.FirState.{FirState, IsFir}
use Rattle.fx_frame_base.proofs.Flags.{none-of}
use Rattle.fx_frame_line.specs.Line.{Frames}
use Rattle.fx_frame_base.proofs.Capacities.{free-grows}
use Rattle.fx_tap_fir.proofs.FirBlocks.{IsFir-block, block-fed}
use Rattle.fx_frame.proofs.WholeFrames.{both-have, no-more}
use Rattle.fx_tap_fir.proofs.fir.FirFeeds.feed.Goals as goal

-- while the line is full, no frame is pending and the sound goes on, as many frames are not given yet as lie after a centre
even : (s : FirState) → IsFir s → s.core.pending ≡ None → s.core.ended ≡ false → length s.line.items ≡ s.line.capacity → s.core.given + centre (length (reverse s.backwards)) ≡ s.core.taken
even s is none over full =
    let no_tail : s.tail ≡ 0 = is.not_ended over in
    let counted = rw (none, over) at is.counted in
    rw (length-reverse s.backwards) (omega (arith, counted, no_tail, is.held, full, is.capacity))

pub filter_frames-clipped-requires-clause-bound : goal.filter_frames-clipped-requires-clause-bound
filter_frames-clipped-requires-clause-bound c =
    let both = both-have (length c.args.input.now) (length c.args.output.now) c.self-2.inside.channels c.self-2.inside.channels c.min-count.result c.min-count.ensures in
    let limit = (rw (← c.self-2.view_is) at c.requires.below_limit) c.min-count.result both.0 in
    omega (arith, limit)

pub invariant_of-self : goal.invariant_of-self
invariant_of-self c =
    let s = c.self-2.inside in
    let none : s.core.pending ≡ None = none-of s.core.pending (search rules) in
    let over : s.core.ended ≡ false = search rules in
    let full : length s.line.items ≡ s.line.capacity = search rules in
    let both = both-have (length c.args.input.now) (length c.args.output.now) s.channels s.channels c.min-count.result c.min-count.ensures in
    let limit = (rw (← c.self-2.view_is) at c.requires.below_limit) c.min-count.result both.0 in
    let ensured = c.filter_frames-clipped.ensures in
    let free = c.self-2.invariant.capacity in
    rw c.pass.ensures
    (IsFir-block (record { channels = s.channels; backwards = s.kernel; line = s.line; core = s.core; tail = s.tail }) c.filter_frames-clipped.new.line c.min-count.result c.filter_frames-clipped.result
    (pieces s.channels c.min-count.result c.args.input.now) c.self-2.invariant none over limit (length-pieces s.channels c.min-count.result c.args.input.now) (λ some. omega (arith, full, free)) c.len-held.ensures.line (ap (λ (l : Frames ℤ). l.items) ensured.line) (ap (λ (l : Frames ℤ). l.capacity) ensured.line) (ap (λ (l : Frames ℤ). l.channels) ensured.line) ensured.bound)

pub returns-clause-fed : goal.returns-clause-fed
returns-clause-fed c =
    let s = c.self-2.inside in
    let is = c.self-2.invariant in
    let none : s.core.pending ≡ None = none-of s.core.pending (search rules) in
    let over : s.core.ended ≡ false = search rules in
    let zero : s.core.pending_clips ≡ 0 = is.core.idle (rw none refl) in
    let no_tail : s.tail ≡ 0 = is.not_ended over in
    let same = length-reverse s.kernel in
    let full : length s.line.items ≡ s.line.capacity = search rules in
    let free = is.capacity in
    let due : centre (length (reverse s.kernel)) ≤ length s.line.items = rw same (omega (arith, full, free)) in
    let places : s.line.capacity + 1 ≡ length (reverse s.kernel) = rw same free in
    let ensured = c.filter_frames-clipped.ensures in
    rw (← c.self-2.view_is, c.pass.ensures)
    (block-fed (record { channels = s.channels; backwards = s.kernel; line = s.line; core = s.core; tail = s.tail }) c.filter_frames-clipped.new.line c.min-count.result c.filter_frames-clipped.result c.args.input.now c.filter_frames-clipped.new.output
    none zero no_tail over (even _ is none over full) places is.line.within due ensured.frames ensured.clips (ap (λ (l : Frames ℤ). l.items) ensured.line) (ap (λ (l : Frames ℤ). l.capacity) ensured.line) (ap (λ (l : Frames ℤ). l.channels) ensured.line))

pub returns-clause-used : goal.returns-clause-used
returns-clause-used c =
    let some = rw (← c.self-2.view_is) at c.requires.channels in
    rw (← c.self-2.view_is)
    (λ free over spent. no-more (length c.args.input.now) (length c.args.output.now) c.self-2.inside.channels c.self-2.inside.channels c.min-count.result (omega (arith, some.0)) (omega (arith, some.0)) c.min-count.ensures (omega (arith, free, c.filter_frames-clipped.auto.output)))

pub returns-clause-free : goal.returns-clause-free
returns-clause-free c =
    let s = c.self-2.inside in
    let full : length s.line.items ≡ s.line.capacity = search rules in
    let late : ℕ = centre (length (reverse s.kernel)) in
    let rest_unchanged = even _ c.self-2.invariant (none-of s.core.pending (search rules)) (search rules) full in
    let both = both-have (length c.args.input.now) (length c.args.output.now) s.channels s.channels c.min-count.result c.min-count.ensures in
    rw (← c.self-2.view_is)
    (λ n bound. free-grows (s.core.taken + n - late - s.core.given) c.min-count.result s.channels (length c.args.output.now) (omega (arith, rest_unchanged, bound)) both.1)
