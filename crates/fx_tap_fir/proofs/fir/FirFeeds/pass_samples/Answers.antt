use Rattle.std.proofs.Common.{◌≡◌, ◌+◌, ◌≤◌, ◌∙◌, List, ℤ, false, length, refl, reverse, arith, None}
use Rattle.std.proofs.lemmas.Grind.{common_steps}
use Rattle.std.proofs.lemmas.List.{length-reverse, take_all}
use Rattle.fx_tap_fir.specs.Fir.{centre}
use Rattle.fx_frame.proofs.DryLaws.{dry-pending}
use Rattle.fx_tap_fir.proofs.FirBlocks.{frame-passed}
use Rattle.fx_tap_fir.proofs.fir.FirFeeds.pass_samples.Goals as goal

pub returns-clause-passed : goal.returns-clause-passed
returns-clause-passed c =
    let s = c.self.inside in
    let is = c.self.invariant in
    let xs : List ℤ = c.args.samples.now in
    let none : s.core.pending ≡ None = dry-pending s.core.pending s.tail (rw (← c.self.view_is) at c.requires.dry) in
    let over : s.core.ended ≡ false = rw (← c.self.view_is) at c.requires.not_ended in
    let zero : s.core.pending_clips ≡ 0 = is.core.idle (rw none refl) in
    let no_tail : s.tail ≡ 0 = is.not_ended over in
    let counted = rw (none, over) at is.counted in
    let same = length-reverse s.kernel in
    let held = is.held in
    let free = is.capacity in
    let late : centre (length s.kernel) ≤ length s.line.items = omega arith in
    let due : centre (length (reverse s.kernel)) ≤ length s.line.items = rw same late in
    let even : s.core.given + centre (length (reverse s.kernel)) ≡ s.core.taken = rw same (omega (arith, counted, no_tail, held, late, free)) in
    let places : s.line.capacity + 1 ≡ length (reverse s.kernel) = rw same free in
    let whole : c.frame_at-came.result ≡ xs = c.frame_at-came.ensures.frame ∙ take_all (length xs) xs (omega arith) in
    let made = rw (whole, c.len-held.ensures.count) at c.filtered_into-clips.ensures in
    let pushed = rw whole at c.push-2.ensures in
    rw (← c.self.view_is, c.pass.ensures)
    (frame-passed (record { channels = s.channels; backwards = s.kernel; line = s.line; core = s.core; tail = s.tail }) c.push-2.new.self xs c.filtered_into-clips.new.out c.filtered_into-clips.result
    none zero no_tail over even places is.line.within due made.frame made.clips pushed.items pushed.capacity pushed.channels)

pub filtered_into-clips-requires-clause-end : goal.filtered_into-clips-requires-clause-end
filtered_into-clips-requires-clause-end c = grind (arith, common_steps)

pub invariant_of-self : goal.invariant_of-self
invariant_of-self c = grind (arith, common_steps)

pub returns-then-held-centre_of-clause-passed : goal.returns-then-held-centre_of-clause-passed
returns-then-held-centre_of-clause-passed c = grind (arith, common_steps)

pub returns-then-held-centre_of-clause-determined : goal.returns-then-held-centre_of-clause-determined
returns-then-held-centre_of-clause-determined c = grind (arith, common_steps)

pub invariant_of-self-2 : goal.invariant_of-self-2
invariant_of-self-2 c = grind (arith, common_steps)

pub returns-clause-determined : goal.returns-clause-determined
returns-clause-determined c = grind (arith, common_steps)
