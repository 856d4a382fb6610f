-- Up to the next pad the frames are passed, all of them.
use Rattle.std.proofs.Common.{rules, ◌≡◌, ◌≤◌, ◌*◌, ◌∙◌, length, take, arith}
use Rattle.fx_frame_base.proofs.Flags.{none-of}
use Rattle.std.proofs.lemmas.List.{length-take-le}
use Rattle.fx_frame_base.specs.Feed.{Fed, nothing}
use Rattle.fx_frame_base.specs.Lists.{pieces}
use Rattle.fx_cut.specs.PadState.{IsPad, pad_acts}
use Rattle.fx_cut.specs.declared.pad.Pad.TheView.{view}
use Rattle.fx_cut.proofs.PadMany.{AreClear, clear_frames-passed, passed, took-with-free}
use Rattle.fx_cut.proofs.Pieces.{bound-pieces, frames-free, pieces-cut}
use Rattle.fx_cut.proofs.pad.PadPassesMany.pass_many.Goals.{After-copy_frames-copied}
use Rattle.fx_cut.proofs.pad.PadPassesMany.pass_many.Goals as goal

pub returns-then-capacity-ne0-clause-fed : goal.returns-then-capacity-ne0-clause-fed
returns-then-capacity-ne0-clause-fed c = nothing

-- the frames up to the next pad, or those of the input, are there
cut : (c : After-copy_frames-copied) → let n = c.min-count.result * c.self.inside.channels in (n ≤ length c.args.input.now) × (length (take n c.args.input.now) ≡ n)
cut c =
    let n = c.min-count.result * c.self.inside.channels in
    let long : n ≤ length c.args.input.now = frames-free c.min-count.result c.self.inside.channels (length c.args.input.now) (omega (arith, c.min-count.ensures)) in
    (long, length-take-le n c.args.input.now long)

-- no silence stands before those that are copied
clear_frames : (c : After-copy_frames-copied) → AreClear (view c.self.inside) c.copy_frames-copied.result
clear_frames c =
    let n = c.copy_frames-copied.result in
    let ch = c.self.inside.channels in
    let count = c.min-count.result in
    let below = rw (← c.self.view_is) at c.requires.below_limit in
    let there = cut c in
    let read = c.copy_frames-copied.ensures.read in
    let fewer : n ≤ count = bound-pieces n count ch (rw (← c.self.view_is) at c.requires.channels.0) (omega (arith, read, there.1)) in
    let clear_frames = rw (c.all.ensures, c.taken-first.ensures) at c.clear_frames_from-clear_frames.ensures in
    let ahead : n ≤ c.clear_frames_from-clear_frames.result = omega (arith, fewer, c.min-count.ensures) in
    record {
      is = c.self.invariant;
      short = search rules;
      empty = none-of c.self.inside.core.pending (search rules);
      none = c.if-self-ne0.false;
      running = search rules;
      clear_frames = λ i h. clear_frames i (omega (arith, h, ahead));
      bound = below n (omega (arith, read, there.1, there.0));
    }

-- so many frames are passed
passes : (c : After-copy_frames-copied) → let s = view c.self.inside in let n = c.copy_frames-copied.result in let t = passed s n in
    Fed pad_acts s (pieces s.recipe.channels n c.args.input.now) (pieces s.recipe.channels n c.copy_frames-copied.new.output) t × IsPad t
passes c =
    let n = c.copy_frames-copied.result in
    let ch = c.self.inside.channels in
    let input = c.args.input.now in
    let there = cut c in
    let read = c.copy_frames-copied.ensures.read in
    let same : pieces ch n c.copy_frames-copied.new.output ≡ pieces ch n input = c.copy_frames-copied.ensures.frames ∙ pieces-cut ch n (c.min-count.result * ch) input (omega (arith, read, there.1)) in
    clear_frames-passed (view c.self.inside) n input c.copy_frames-copied.new.output (clear_frames c) (omega (arith, read, there.1, there.0)) same

pub invariant_of-self : goal.invariant_of-self
invariant_of-self c = rw c.pass.ensures (passes (goal.at.invariant_of-self c).After-copy_frames-copied).1

pub returns-clause-fed : goal.returns-clause-fed
returns-clause-fed c = rw (← c.self.view_is, c.pass.ensures) (passes (goal.at.returns-clause-fed c).After-copy_frames-copied).0

pub returns-clause-free : goal.returns-clause-free
returns-clause-free c =
    let a = clear_frames (goal.at.returns-clause-free c).After-copy_frames-copied in
    let fits = c.copy_frames-copied.ensures.written in
    rw (← c.self.view_is) (took-with-free (view c.self.inside) c.copy_frames-copied.result (length c.args.output.now) a (omega (arith, fits, c.copy_frames-copied.auto.output)))
