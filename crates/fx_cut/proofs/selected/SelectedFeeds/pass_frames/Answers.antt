use Rattle.std.proofs.Common.{◌≡◌, ◌*◌, ◌∙◌, ℕ, length, sym, ap, arith, append-nil, None}
use Rattle.fx_frame_base.specs.Pipeline.{EachThrough}
use Rattle.fx_frame_base.specs.Lists.{pieces}
use Rattle.fx_cut.specs.Selected.{IsSelectedState, selected_acts}
use Rattle.fx_frame_base.proofs.Flags.{none-is}
use Rattle.fx_cut.proofs.SelectMany.{passed}
use Rattle.fx_cut.proofs.SelectSteps.{state}
use Rattle.fx_cut.proofs.SelectThrough.{group-passed, one_to_one-alike, one_to_one-full}
use Rattle.fx_cut.proofs.selected.SelectedFeeds.pass_frames.Given as given
use Rattle.fx_cut.proofs.selected.SelectedFeeds.pass_frames.Goals as goal
use Rattle.fx_cut.proofs.selected.SelectedFeeds.pass_frames.Goals.{After-len-held}

pub exchange_full-requires-clause-channels : goal.exchange_full-requires-clause-channels
exchange_full-requires-clause-channels g c = c.channels-channels.ensures ∙ sym c.self.invariant.channels

pub exchange_full-requires-clause-full : goal.exchange_full-requires-clause-full
exchange_full-requires-clause-full g c =
    let may = rw (← c.self.view_is) at c.requires in
    one_to_one-full g.S.Selection.selects g.S.Selection.determined (state c.self.inside.core c.self.inside.line c.self.inside.selection) c.args.count c.self.invariant may.not_ended may.one_to_one

pub exchange_full-requires-clause-bound : goal.exchange_full-requires-clause-bound
exchange_full-requires-clause-bound g c =
    let limit = rw (← c.self.view_is) at c.requires.below_limit in
    omega (arith, limit)

pub exchange_full-requires-clause-samples : goal.exchange_full-requires-clause-samples
exchange_full-requires-clause-samples g c =
    let size = rw (← c.self.view_is) at c.requires.samples in
    size ∙ ap (λ w. c.args.count * w) (sym c.self.invariant.channels)

pub select_many-requires-clause-channels : goal.select_many-requires-clause-channels
select_many-requires-clause-channels g c =
    let same = c.channels-channels.ensures ∙ sym c.self.invariant.channels in
    let some = c.self.invariant.line.some in
    omega (arith, same, some)

pub select_many-requires-clause-frames : goal.select_many-requires-clause-frames
select_many-requires-clause-frames g c =
    let size = rw (← c.self.view_is) at c.requires.samples in
    c.exchange_full.ensures.len ∙ size ∙ ap (λ w. c.args.count * w) (sym c.channels-channels.ensures)

pub select_many-requires-clause-place : goal.select_many-requires-clause-place
select_many-requires-clause-place g c =
    let limit = rw (← c.self.view_is) at c.requires.below_limit in
    omega (arith, limit, c.len.ensures.count)

-- they are passed
passes : (g : given.Over) (c : After-len-held g) →
    let selects = g.S.Selection.selects in
    let s = state c.self.inside.core c.self.inside.line c.self.inside.selection in
    let n = c.args.count in
    let w = selects.channels c.self.inside.selection in
    let t = passed selects s c.exchange_full.new.line n n in
    EachThrough (selected_acts selects) (pieces w n c.args.samples.now) (pieces w n c.select_many.new.samples) s t × IsSelectedState selects t
passes g c =
    let selects = g.S.Selection.selects in
    let s = state c.self.inside.core c.self.inside.line c.self.inside.selection in
    let n : ℕ = c.args.count in
    let width = c.channels-channels.ensures in
    let may = rw (← c.self.view_is) at c.requires in
    let empty : s.core.pending ≡ None = none-is s.core.pending may.dry in
    let a = one_to_one-alike selects g.S.Selection.determined s n c.self.invariant may.not_ended may.one_to_one empty may.ahead may.below_limit in
    let full = one_to_one-full selects g.S.Selection.determined s n c.self.invariant may.not_ended may.one_to_one in
    let delivered = c.exchange_full.ensures in
    let made = rw (c.taken.ensures, c.len.ensures.count, width) at c.select_many.ensures.frames in
    let long : length c.select_many.new.samples ≡ n * selects.channels c.self.inside.selection = c.select_many.ensures.len ∙ delivered.len ∙ may.samples in
    group-passed selects g.S.Selection.determined s n c.exchange_full.new.line c.args.samples.now c.exchange_full.new.samples c.select_many.new.samples a full may.samples c.see_samples.ensures delivered.items delivered.capacity delivered.channels delivered.fallen made c.select_many.ensures.fit long

pub invariant_of-self : goal.invariant_of-self
invariant_of-self g c = rw (c.give_many.ensures, c.take_many.ensures) (passes g (goal.at.invariant_of-self g c).After-len-held).1

pub returns-clause-through : goal.returns-clause-through
returns-clause-through g c = rw (← c.self.view_is, c.give_many.ensures, c.take_many.ensures) (passes g (goal.at.returns-clause-through g c).After-len-held).0

pub returns-clause-lined : goal.returns-clause-lined
returns-clause-lined g c =
    let may = rw (← c.self.view_is) at c.requires in
    let empty : c.self.inside.core.pending ≡ None = none-is c.self.inside.core.pending may.dry in
    let within = c.len-held.ensures.line.within in
    rw (c.give_many.ensures, c.take_many.ensures, empty) (simp append-nil (omega (arith, within, c.exchange_full.ensures.capacity, c.self.invariant.capacity)))
