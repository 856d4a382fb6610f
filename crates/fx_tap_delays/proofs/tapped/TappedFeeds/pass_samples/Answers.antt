use Rattle.std.proofs.Common.{◌≡◌, ◌+◌, ◌*◌, ◌≤◌, ◌∙◌, ◌^◌, ap, ℤ, [], ◌∷◌, false, refl, arith, None}
use Rattle.fx_frame_line.specs.Line.{Frames}
use Rattle.fx_frame.proofs.TapBlocks.{IsTapState-block, frame-passed}
use Rattle.fx_frame.proofs.DryLaws.{dry-pending}
use Rattle.fx_tap_delays.proofs.tapped.TappedFeeds.pass_samples.Goals as goal

pub invariant_of-self : goal.invariant_of-self
invariant_of-self g c =
    let s = c.self.inside in
    let taps = g.T.Tapping.taps in
    let is = c.self.invariant in
    let none : s.core.pending ≡ None = dry-pending s.core.pending s.tail (rw (← c.self.view_is) at c.requires.dry) in
    let over : s.core.ended ≡ false = rw (← c.self.view_is) at c.requires.not_ended in
    let limit = rw (← c.self.view_is) at c.requires.below_limit in
    let bound : s.core.taken + 1 ≤ 2 ^ 56 = omega (arith, limit) in
    let little : c.tap_over-clips.result ≤ 1 * taps.max_clips s.arguments = omega (arith, c.tap_over-clips.ensures.bound) in
    let delivered = c.tap_over-clips.ensures in
    rw c.pass.ensures
    (IsTapState-block taps _ c.tap_over-clips.new.line 1 c.tap_over-clips.result (c.args.samples.now ∷ []) is none over bound refl c.len-held.ensures.line (ap (λ (l : Frames ℤ). l.items) delivered.line) (ap (λ (l : Frames ℤ). l.capacity) delivered.line) (ap (λ (l : Frames ℤ). l.channels) delivered.line) little)

pub returns-clause-passed : goal.returns-clause-passed
returns-clause-passed g c =
    let s = c.self.inside in
    let none : s.core.pending ≡ None = dry-pending s.core.pending s.tail (rw (← c.self.view_is) at c.requires.dry) in
    let over : s.core.ended ≡ false = rw (← c.self.view_is) at c.requires.not_ended in
    let width = rw (← c.self.view_is) at c.requires.channels in
    let delivered = c.tap_over-clips.ensures in
    rw (← c.self.view_is, c.pass.ensures)
    (frame-passed g.T.Tapping.taps g.met.T.Tapping.near s.arguments _ c.tap_over-clips.new.line c.args.samples.now c.tap_over-clips.new.samples c.tap_over-clips.result
    refl c.self.invariant none over (c.tap_over-clips.auto.samples ∙ width) delivered.frame delivered.clips (ap (λ (l : Frames ℤ). l.items) delivered.line) (ap (λ (l : Frames ℤ). l.capacity) delivered.line) (ap (λ (l : Frames ℤ). l.channels) delivered.line))
