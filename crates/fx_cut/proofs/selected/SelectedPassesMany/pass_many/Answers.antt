-- The frames that fall out up to where a run ends are given, or left out, all of them.
use Rattle.std.proofs.Common.{rules, ℕ, ◌≡◌, ◌≤◌, ◌+◌, ◌*◌, ◌-◌, ◌/◌, ◌∙◌, ◌++◌, drop, length, take, sym, arith, w32}
use Rattle.fx_frame_base.proofs.Flags.{none-of}
use Rattle.std.proofs.lemmas.Grind.{common_steps}
use Rattle.std.proofs.lemmas.List.{length-take-le}
use Rattle.std.proofs.lemmas.List.Elements.{All-append}
use Rattle.fx_frame_base.specs.Feed.{Fed, nothing}
use Rattle.fx_frame_line.specs.Line.{IsSamples}
use Rattle.fx_frame_base.specs.Lists.{pieces}
use Rattle.fx_frame_base.proofs.Pieces.{pieces-front}
use Rattle.fx_cut.specs.Selected.{IsSelectedState, selected_acts}
use Rattle.fx_cut.proofs.Onto.{IsPiece, piece-fits}
use Rattle.fx_cut.proofs.SelectMany.{Alike, fell-fit, passed, piece-passed, took-with-free}
use Rattle.fx_cut.proofs.SelectSteps.{state}
use Rattle.fx_cut.proofs.selected.SelectedPassesMany.pass_many.Given as given
use Rattle.fx_cut.proofs.selected.SelectedPassesMany.pass_many.Goals.{After-given_of-given, After-push_frames, After-give_many}
use Rattle.fx_cut.proofs.selected.SelectedPassesMany.pass_many.Goals as goal

pub returns-then-is_pending-clause-fed : goal.returns-then-is_pending-clause-fed
returns-then-is_pending-clause-fed g c = nothing

-- the frames that come are there, and those that are given have room
free : (g : given.Over) (c : After-given_of-given g) → IsPiece c.frame_run_from-frame_run.result.is_given c.self.inside.line c.min-count.result c.given_of-given.result c.channels-channels.result (length c.args.input.now) (length c.args.output.now)
free g c =
    let within = c.self.invariant.line.within in
    piece-fits c.frame_run_from-frame_run.result.is_given c.self.inside.line c.min-count.result c.given_of-given.result (c.capacity.result - c.len-lined.result) c.channels-channels.result (length c.args.input.now) (length c.args.output.now) within (omega arith) (omega arith) (omega arith) (rw c.saturating_sub.ensures at c.given_of-given.ensures)

pub oldest_into-requires-clause-enough : goal.oldest_into-requires-clause-enough
oldest_into-requires-clause-enough g c =
    let fits = free g (goal.at.oldest_into-requires-clause-enough g c).After-given_of-given in
    rw (c.self.invariant.channels ∙ sym c.channels-channels.ensures, length-take-le (c.min-count.result * c.channels-channels.result) c.args.input.now fits.read) fits.enough

-- those that fall out, and are given, are written
fell : (g : given.Over) (c : After-push_frames g) → let l = c.self.inside.line in let n = c.min-count.result in let k = c.given_of-given.result in let w = c.channels-channels.result in (k * w ≤ length c.oldest_into.new.out) × (pieces l.channels k c.oldest_into.new.out ≡ take k (l.items ++ pieces l.channels n (take (n * w) c.args.input.now)))
fell g c =
    let n : ℕ = c.min-count.result in
    let w : ℕ = c.channels-channels.result in
    let fits = free g (goal.at.slice_bounds-made-end g c).After-given_of-given in
    let same = c.self.invariant.channels ∙ sym c.channels-channels.ensures in
    let long : length (take (n * w) c.args.input.now) ≡ n * w = length-take-le (n * w) c.args.input.now fits.read in
    let there : n * c.self.inside.line.channels ≤ length (take (n * w) c.args.input.now) = rw (same, long) (omega arith) in
    (omega (arith, fits.written, c.oldest_into.auto.out), c.oldest_into.ensures.frames n there fits.bound)

pub slice_bounds-made-end : goal.slice_bounds-made-end
slice_bounds-made-end g c = (fell g (goal.at.slice_bounds-made-end g c).After-push_frames).0

pub slice_bounds-made-end-2 : goal.slice_bounds-made-end-2
slice_bounds-made-end-2 g c = sym (length-take-le (c.given_of-given.result * c.channels-channels.result) c.oldest_into.new.out (fell g (goal.at.slice_bounds-made-end-2 g c).After-push_frames).0)

pub select_many-requires-clause-frames : goal.select_many-requires-clause-frames
select_many-requires-clause-frames g c = length-take-le (c.given_of-given.result * c.channels-channels.result) c.oldest_into.new.out (fell g (goal.at.select_many-requires-clause-frames g c).After-push_frames).0

pub select_many-requires-clause-fit : goal.select_many-requires-clause-fit
select_many-requires-clause-fit g c =
    let out = fell g (goal.at.select_many-requires-clause-fit g c).After-push_frames in
    let samples = All-append (IsSamples w32 c.self.inside.line.channels) c.self.inside.line.items _ c.self.invariant.line.frames c.push_frames.ensures.frames in
    let same = c.self.invariant.channels ∙ sym c.channels-channels.ensures in
    fell-fit c.channels-channels.result c.given_of-given.result _ c.oldest_into.new.out out.0 (rw same at out.1) (rw same at samples)

pub select_many-requires-clause-place : goal.select_many-requires-clause-place
select_many-requires-clause-place g c =
    let fits = free g (goal.at.select_many-requires-clause-place g c).After-given_of-given in
    let low = c.self.invariant.within in
    let below = rw (← c.self.view_is, ← c.channels-channels.ensures) at c.requires.below_limit in
    let bound = below c.min-count.result fits.read in
    let more = fits.bound in
    omega (arith, bound, more, low, c.len-lined.ensures.count)

-- they are passed
passes : (g : given.Over) (c : After-give_many g) →
    let selects = g.S.Selection.selects in
    let s = state c.self.inside.core c.self.inside.line c.self.inside.selection in
    let n = c.min-count.result in
    let k = c.given_of-given.result in
    let w = selects.channels c.self.inside.selection in
    let t = passed selects s c.push_frames.new.self n k in
    Fed (selected_acts selects) s (pieces w n c.args.input.now) (pieces w k (c.select_many.new.samples ++ drop (k * c.channels-channels.result) c.oldest_into.new.out)) t × IsSelectedState selects t
passes g c =
    let selects = g.S.Selection.selects in
    let s = state c.self.inside.core c.self.inside.line c.self.inside.selection in
    let n : ℕ = c.min-count.result in
    let k : ℕ = c.given_of-given.result in
    let w : ℕ = c.channels-channels.result in
    let width = c.channels-channels.ensures in
    let fits = free g (goal.at.invariant_of-self g c).After-given_of-given in
    let out = fell g (goal.at.invariant_of-self g c).After-push_frames in
    let low = c.self.invariant.within in
    let below = rw (← c.self.view_is, ← width) at c.requires.below_limit in
    let at : c.taken-taken.result - c.len-lined.result ≡ c.self.inside.core.taken - length c.self.inside.line.items = omega arith in
    let a : Alike selects c.frame_run_from-frame_run.result.is_given s n = record {
      is = c.self.invariant;
      empty = none-of c.self.inside.core.pending (search rules);
      running = search rules;
      gives = λ i h. let within = c.self.invariant.line.within in let alike = c.frame_run_from-frame_run.ensures.alike i (omega arith) in rw at at alike;
      wanted = λ i h. let enough = c.wanted.ensures i (omega arith) in rw (c.enough.ensures, c.taken-taken.ensures) at enough;
      bound = below n fits.read;
    } in
    let made = rw (at, width) at c.select_many.ensures.frames in
    let whole : length c.select_many.new.samples ≡ k * w = c.select_many.auto.samples ∙ length-take-le (k * w) c.oldest_into.new.out out.0 in
    let wide = rw width at whole in
    let put = pieces-front (selects.channels c.self.inside.selection) k c.select_many.new.samples (drop (k * w) c.oldest_into.new.out) wide in
    piece-passed selects g.S.Selection.determined c.frame_run_from-frame_run.result.is_given s n k c.push_frames.new.self c.args.input.now c.oldest_into.new.out c.select_many.new.samples _ a (rw width at fits.read) (rw width at out.0)
    (rw width at c.push_frames.ensures.items) c.push_frames.ensures.capacity c.push_frames.ensures.channels (rw width at c.push_frames.ensures.frames) fits.number (rw width at out.1) made c.select_many.ensures.fit wide put

pub invariant_of-self : goal.invariant_of-self
invariant_of-self g c = rw (c.give_many.ensures, c.take_many.ensures) (passes g c).1

pub returns-clause-fed : goal.returns-clause-fed
returns-clause-fed g c = rw (← c.self.view_is, c.give_many.ensures, c.take_many.ensures) (passes g c).0

pub returns-clause-written : goal.returns-clause-written
returns-clause-written g c =
    let w = c.channels-channels.ensures in
    let fits = (fell g (goal.at.returns-clause-written g c).After-push_frames).0 in
    rw (← c.self.view_is, ← w) (omega (arith, fits, c.select_many.auto.samples))

pub overflow_mul-frames : goal.overflow_mul-frames
overflow_mul-frames g c = grind (arith, common_steps)

pub overflow_mul-made : goal.overflow_mul-made
overflow_mul-made g c =
    let out = (fell g (goal.at.overflow_mul-made g c).After-push_frames).0 in
    search rules

pub returns-clause-rest_unchanged : goal.returns-clause-rest_unchanged
returns-clause-rest_unchanged g c = grind (arith, common_steps)

pub returns-clause-free : goal.returns-clause-free
returns-clause-free g c =
    let selects = g.S.Selection.selects in
    let s = state c.self.inside.core c.self.inside.line c.self.inside.selection in
    let width = c.channels-channels.ensures in
    let there = rw (← c.self.view_is) at c.requires.channels.0 in
    let one : c.channels-channels.result ≤ length c.args.output.now = omega arith in
    let bound : c.min-count.result ≤ length c.args.output.now / c.channels-channels.result + (c.self.inside.line.capacity - length c.self.inside.line.items) = omega arith in
    rw (← c.self.view_is)
    (took-with-free selects g.S.Selection.determined s c.min-count.result (length c.args.output.now) c.self.invariant (none-of c.self.inside.core.pending (search rules)) (search rules) there (rw width at one) (rw width at bound))
