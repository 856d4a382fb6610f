use Rattle.std.proofs.Common.{◌≡◌, ◌≤◌, ◌*◌, ◌∙◌, ℕ, ◌++◌, length, take, drop, sym, arith, append-nil, None}
use Rattle.std.proofs.lemmas.List.{take-append-le}
use Rattle.fx_frame_base.specs.Pipeline.{EachThrough}
use Rattle.fx_frame_base.specs.StageCore.{pending_frames}
use Rattle.fx_frame_base.specs.Lists.{pieces}
use Rattle.fx_frame_base.proofs.Pieces.{length-pieces}
use Rattle.fx_frame_line.specs.Line.{pushed_all}
use Rattle.fx_cut.specs.Selected.{IsSelectedState, selected_acts}
use Rattle.fx_cut.proofs.Early.{popped-pushed}
use Rattle.fx_frame_base.proofs.Flags.{none-is}
use Rattle.fx_cut.proofs.SelectMany.{passed}
use Rattle.fx_cut.proofs.SelectSteps.{state}
use Rattle.fx_cut.proofs.SelectThrough.{group-passed, one_to_one-alike, one_to_one-full}
use Rattle.fx_cut.proofs.selected.SelectedPassesEarly.pass_early.Given as given
use Rattle.fx_cut.proofs.selected.SelectedPassesEarly.pass_early.Goals as goal
use Rattle.fx_cut.proofs.selected.SelectedPassesEarly.pass_early.Goals.{After-len-held}

-- they are passed
passes : (g : given.Over) (c : After-len-held g) →
    let selects = g.S.Selection.selects in
    let s = state c.self.inside.core c.self.inside.line c.self.inside.selection in
    let n = c.args.count in
    let w = selects.channels c.self.inside.selection in
    let t = passed selects s c.push_frames.new.self n n in
    EachThrough (selected_acts selects) (pieces w n c.args.input.now) (pieces w n c.select_many.new.samples) s t × IsSelectedState selects t
passes g c =
    let selects = g.S.Selection.selects in
    let s = state c.self.inside.core c.self.inside.line c.self.inside.selection in
    let n : ℕ = c.args.count in
    let width = c.channels-channels.ensures in
    let may = rw (← c.self.view_is) at c.requires in
    let empty : s.core.pending ≡ None = none-is s.core.pending may.dry in
    let a = one_to_one-alike selects g.S.Selection.determined s n c.self.invariant may.not_ended may.one_to_one empty may.ahead may.below_limit in
    let full = one_to_one-full selects g.S.Selection.determined s n c.self.invariant may.not_ended may.one_to_one in
    let held : n ≤ length s.line.items = may.lined in
    let popped = c.pop_frames.ensures in
    let came = c.push_frames.ensures in
    let many : length (pieces s.line.channels n c.args.input.now) ≡ n = length-pieces s.line.channels n c.args.input.now in
    let items : c.push_frames.new.self.items ≡ pushed_all s.line (pieces s.line.channels n c.args.input.now) = rw popped.channels at came.items ∙ popped-pushed s.line c.pop_frames.new.self (pieces s.line.channels n c.args.input.now) n popped.items popped.capacity many held (full may.some) in
    let fell : pieces s.line.channels n c.pop_frames.new.out ≡ take n (s.line.items ++ pieces s.line.channels n c.args.input.now) = popped.oldest ∙ sym (take-append-le n s.line.items (pieces s.line.channels n c.args.input.now) held) in
    let made = rw (c.taken.ensures, c.len.ensures.count, width) at c.select_many.ensures.frames in
    let long : length c.select_many.new.samples ≡ n * selects.channels c.self.inside.selection = c.select_many.ensures.len ∙ c.pop_frames.auto.out ∙ may.free ∙ may.long in
    group-passed selects g.S.Selection.determined s n c.push_frames.new.self c.args.input.now c.pop_frames.new.out c.select_many.new.samples a full may.long c.see_samples.ensures items (came.capacity ∙ popped.capacity) (came.channels ∙ popped.channels) fell made c.select_many.ensures.fit long

pub invariant_of-self : goal.invariant_of-self
invariant_of-self g c = rw (c.give_many.ensures, c.take_many.ensures) (passes g (goal.at.invariant_of-self g c).After-len-held).1

pub returns : goal.returns
returns g c =
    let width = c.channels-channels.ensures in
    let selects = g.S.Selection.selects in
    let s = state c.self.inside.core c.self.inside.line c.self.inside.selection in
    let may = rw (← c.self.view_is) at c.requires in
    let empty : s.core.pending ≡ None = none-is s.core.pending may.dry in
    let left : drop c.args.count (s.line.items ++ pending_frames s.core) ≡ c.pop_frames.new.self.items = rw (empty, append-nil) (sym c.pop_frames.ensures.items) in
    rw (← c.self.view_is, c.give_many.ensures, c.take_many.ensures) (record {
      between = pieces (selects.channels c.self.inside.selection) c.args.count c.select_many.new.samples;
      through = (passes g (goal.at.returns g c).After-len-held).0;
      stored = rw (empty, append-nil) may.lined;
      others = rw left (rw width at c.pass_in_place.ensures.passed);
    })

pub pass_in_place-requires-clause-ready : goal.pass_in_place-requires-clause-ready
pass_in_place-requires-clause-ready g c =
    let may = rw (← c.self.view_is) at c.requires.ready in
    (c.self.inside.core.given, may.0, omega (arith, may.1, c.self.invariant.within), rw (← c.channels-channels.ensures) at may.2)
