use Rattle.std.proofs.Common.{◌+◌, ◌≡◌, ◌*◌, ◌^◌, ◌≤◌, ap, ℤ, false, length, refl, arith, append-nil, None}
use Rattle.std.proofs.Math.Nat.{mul-le-mul}
use Rattle.fx_frame_base.proofs.Pieces.{length-pieces}
use Rattle.fx_frame_line.specs.Line.{Frames}
use Rattle.fx_frame.proofs.DryLaws.{dry-pending}
use Rattle.fx_frame.proofs.TapBlocks.{IsTapState-block, block-through}
use Rattle.fx_tap_delays.proofs.tapped.TappedFeeds.pass_frames.Given as given
use Rattle.fx_tap_delays.proofs.tapped.TappedFeeds.pass_frames.Goals.{After-tap_groups-clips}
use Rattle.fx_tap_delays.proofs.tapped.TappedFeeds.pass_frames.Goals as goal

-- the stage has no pending frame, has not ended, gave what it took, and may take as many more
ready : (g : given.Over) (c : After-tap_groups-clips g) →
    let s = c.self.inside in
    (s.core.pending ≡ None) × (s.core.ended ≡ false) × (s.core.taken + c.args.count ≤ 2 ^ 56) × (s.core.given ≡ s.core.taken)
ready g c =
    let s = c.self.inside in
    let none : s.core.pending ≡ None = dry-pending s.core.pending s.tail (rw (← c.self.view_is) at c.requires.dry) in
    let over : s.core.ended ≡ false = rw (← c.self.view_is) at c.requires.not_ended in
    let no_tail : s.tail ≡ 0 = c.self.invariant.not_ended over in
    let counted = rw (none, over) at c.self.invariant.counted in
    (none, over, rw (← c.self.view_is) at c.requires.below_limit, omega (arith, counted, no_tail))

pub tap_groups-clips-requires : goal.tap_groups-clips-requires
tap_groups-clips-requires g c =
    let limit = rw (← c.self.view_is) at c.requires.below_limit in
    record { line = record { channels = c.self.invariant.channels; capacity = c.self.invariant.capacity }; bound = omega (arith, limit); samples = rw (← c.self.view_is) at c.requires.samples }

pub pass-requires : goal.pass-requires
pass-requires g c =
    let s = c.self.inside in
    let (none, over, limit, even) = ready g (goal.at.pass-requires g c).After-tap_groups-clips in
    let bound : s.core.given ≤ 2 ^ 56 = omega (arith, even, c.self.invariant.core.bound) in
    let all = mul-le-mul bound (g.met.T.Tapping.clips_max s.arguments) in
    record {
      taken = omega (arith, limit);
      given = omega (arith, even, limit);
      clips = omega (arith, all, limit, c.self.invariant.core.clips_max, c.tap_groups-clips.ensures.clips.small);
    }

pub invariant_of-self : goal.invariant_of-self
invariant_of-self g c =
    let (none, over, limit, even) = ready g (goal.at.invariant_of-self g c).After-tap_groups-clips in
    let delivered = c.tap_groups-clips.ensures in
    rw c.pass.ensures
    (IsTapState-block g.T.Tapping.taps _ c.tap_groups-clips.new.line c.args.count c.tap_groups-clips.result _ c.self.invariant none over limit (length-pieces (g.T.Tapping.taps.channels c.self.inside.arguments) c.args.count c.args.samples.now) c.len-held.ensures.line (ap (λ (l : Frames ℤ). l.items) delivered.line) (ap (λ (l : Frames ℤ). l.capacity) delivered.line) (ap (λ (l : Frames ℤ). l.channels) delivered.line) delivered.clips.bound)

pub returns-clause-through : goal.returns-clause-through
returns-clause-through g c =
    let s = c.self.inside in
    let (none, over, limit, even) = ready g (goal.at.returns-clause-through g c).After-tap_groups-clips in
    let size = rw (← c.self.view_is) at c.requires.samples in
    let out : c.args.count * g.T.Tapping.taps.channels s.arguments ≤ length c.tap_groups-clips.new.samples = omega (arith, size, c.tap_groups-clips.auto.samples) in
    let delivered = c.tap_groups-clips.ensures in
    rw (← c.self.view_is, c.pass.ensures)
    (block-through g.T.Tapping.taps g.met.T.Tapping.near s.arguments _ c.tap_groups-clips.new.line c.args.count c.tap_groups-clips.result c.args.samples.now c.tap_groups-clips.new.samples refl c.self.invariant none over out delivered.frames delivered.clips.counted (ap (λ (l : Frames ℤ). l.items) delivered.line) (ap (λ (l : Frames ℤ). l.capacity) delivered.line) (ap (λ (l : Frames ℤ). l.channels) delivered.line))

pub returns-clause-lined : goal.returns-clause-lined
returns-clause-lined g c =
    let s = c.self.inside in
    let none : s.core.pending ≡ None = dry-pending s.core.pending s.tail (rw (← c.self.view_is) at c.requires.dry) in
    let within = c.len-held.ensures.line.within in
    let delivered = c.tap_groups-clips.ensures in
    rw (c.pass.ensures, none) (simp append-nil (omega (arith, within, ap (λ (l : Frames ℤ). l.capacity) delivered.line, c.self.invariant.capacity)))
