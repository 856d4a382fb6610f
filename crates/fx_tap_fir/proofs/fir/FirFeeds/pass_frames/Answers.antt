use Rattle.std.proofs.Common.{◌≡◌, ◌+◌, ◌-◌, ◌≤◌, ap, ℕ, ℤ, false, length, refl, reverse, arith, None}
use Rattle.std.proofs.lemmas.List.{length-reverse}
use Rattle.fx_frame_base.proofs.Pieces.{length-pieces}
use Rattle.fx_frame_base.specs.Lists.{pieces}
use Rattle.fx_frame_line.specs.Line.{Frames}
use Rattle.fx_frame.proofs.DryLaws.{dry-pending}
use Rattle.fx_tap_fir.specs.Fir.{centre}
use Rattle.fx_tap_fir.specs.FirState.{FirState, IsFir}
use Rattle.fx_tap_fir.proofs.FirBlocks.{IsFir-block, block-through}
use Rattle.fx_tap_fir.proofs.fir.FirFeeds.pass_frames.Goals as goal

-- where one more frame is due for one that is taken, half of the coefficients have frames in the line
enough : (s : FirState) (late : ℕ) → IsFir s → s.core.pending ≡ None → s.core.ended ≡ false → late ≡ centre (length s.backwards) → s.core.taken + 1 - late ≡ s.core.taken - late + 1
    → (late ≤ length s.line.items) × (s.core.given + late ≡ s.core.taken)
enough s late is none over is_late one_more =
    let no_tail : s.tail ≡ 0 = is.not_ended over in
    let counted = rw (none, over) at is.counted in
    let held = is.held in
    let free = is.capacity in
    (omega (arith, held, free, is_late, one_more), omega (arith, counted, no_tail, is_late, one_more))

pub invariant_of-self : goal.invariant_of-self
invariant_of-self c =
    let s = c.self.inside in
    let first : FirState = record { channels = s.channels; backwards = s.kernel; line = s.line; core = s.core; tail = s.tail } in
    let none : s.core.pending ≡ None = dry-pending s.core.pending s.tail (rw (← c.self.view_is) at c.requires.dry) in
    let over : s.core.ended ≡ false = rw (← c.self.view_is) at c.requires.not_ended in
    let limit = rw (← c.self.view_is) at c.requires.below_limit in
    let one_to_one = rw (← c.self.view_is) at c.requires.one_to_one in
    let late : centre (length (reverse s.kernel)) ≡ centre (length s.kernel) = ap centre (length-reverse s.kernel) in
    let delivered = c.filter_batch-clips.ensures in
    rw c.pass.ensures
    (IsFir-block first c.filter_batch-clips.new.line c.args.count c.filter_batch-clips.result (pieces s.channels c.args.count c.args.samples.now) c.self.invariant none over limit (length-pieces s.channels c.args.count c.args.samples.now)
    (λ some. rw (← late) (enough first (centre (length (reverse s.kernel))) c.self.invariant none over late (one_to_one 1 some)).0)
    c.len-held.ensures.line (ap (λ (l : Frames ℤ). l.items) delivered.line) (ap (λ (l : Frames ℤ). l.capacity) delivered.line) (ap (λ (l : Frames ℤ). l.channels) delivered.line) delivered.bound)

pub returns-clause-through : goal.returns-clause-through
returns-clause-through c =
    let s = c.self.inside in
    let is = c.self.invariant in
    let first : FirState = record { channels = s.channels; backwards = s.kernel; line = s.line; core = s.core; tail = s.tail } in
    let none : s.core.pending ≡ None = dry-pending s.core.pending s.tail (rw (← c.self.view_is) at c.requires.dry) in
    let over : s.core.ended ≡ false = rw (← c.self.view_is) at c.requires.not_ended in
    let zero : s.core.pending_clips ≡ 0 = is.core.idle (rw none refl) in
    let one_to_one = rw (← c.self.view_is) at c.requires.one_to_one in
    let late : centre (length (reverse s.kernel)) ≡ centre (length s.kernel) = ap centre (length-reverse s.kernel) in
    let places : s.line.capacity + 1 ≡ length (reverse s.kernel) = rw (length-reverse s.kernel) is.capacity in
    let delivered = c.filter_batch-clips.ensures in
    rw (← c.self.view_is, c.pass.ensures)
    (block-through first c.filter_batch-clips.new.line c.args.count c.filter_batch-clips.result c.args.samples.now c.filter_batch-clips.new.samples none zero (is.not_ended over) over places is.line.within
    (λ some. enough first (centre (length (reverse s.kernel))) is none over late (one_to_one 1 some))
    delivered.frames delivered.clips (ap (λ (l : Frames ℤ). l.items) delivered.line) (ap (λ (l : Frames ℤ). l.capacity) delivered.line) (ap (λ (l : Frames ℤ). l.channels) delivered.line))
