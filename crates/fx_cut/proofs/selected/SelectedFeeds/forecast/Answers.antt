use Rattle.std.proofs.Common.{◌≡◌, ◌-◌, ◌≤◌, ◌∙◌, Bool, true, false, not, refl, arith}
use Rattle.fx_frame_base.proofs.Forecasts.{no-none_due, no-one_to_one}
use Rattle.fx_cut.specs.Selected.{selected_kind}
use Rattle.fx_cut.proofs.SelectSteps.{due-along, due-none}
use Rattle.fx_cut.proofs.selected.SelectedFeeds.forecast.Goals as goal

omitted : (given : Bool) → not given ≡ true → given ≡ false
omitted false is = refl
omitted true is = absurd (cc is)

included : (given : Bool) → not given ≡ false → given ≡ true
included true is = refl
included false is = absurd (cc is)

pub returns-then-not-frame_run : goal.returns-then-not-frame_run
returns-then-not-frame_run g c =
    let selects = g.S.Selection.selects in
    let m = c.self.inside.selection in
    let reach : c.capacity-reach.result ≡ selects.reach m = c.capacity-reach.ensures.capacity ∙ c.self.invariant.capacity in
    let place : c.saturating_sub.result ≡ c.self.inside.core.taken - selects.reach m = omega (arith, c.saturating_sub.ensures, c.taken-taken.ensures, reach) in
    let alike = rw place at c.frame_run_from-frame_run.ensures.alike in
    record {
      ahead = rw (← c.self.view_is) (rw (c.enough.ensures, c.taken-taken.ensures) at c.wanted-ahead.ensures);
      one_to_one = no-one_to_one (selected_kind selects c.args.self.now.arguments) c.args.self.now.core.taken;
      none_due = rw (← c.self.view_is) (λ n bound. due-none selects g.S.Selection.determined m c.self.inside.core.taken n (λ i less. alike i (omega (arith, less, bound, reach, c.taken-taken.ensures, c.saturating_sub-free.ensures, c.saturating_add.ensures)) ∙ omitted c.frame_run_from-frame_run.result.is_given c.if-not-frame_run.true));
    }

pub returns-then-free-gt0 : goal.returns-then-free-gt0
returns-then-free-gt0 g c =
    let selects = g.S.Selection.selects in
    let m = c.self.inside.selection in
    let reach : c.capacity-reach.result ≡ selects.reach m = c.capacity-reach.ensures.capacity ∙ c.self.invariant.capacity in
    record {
      ahead = rw (← c.self.view_is) (rw (c.enough.ensures, c.taken-taken.ensures) at c.wanted-ahead.ensures);
      one_to_one = no-one_to_one (selected_kind selects c.args.self.now.arguments) c.args.self.now.core.taken;
      none_due = rw (← c.self.view_is) (λ n bound. due-none selects g.S.Selection.determined m c.self.inside.core.taken n (λ i less. absurd (omega (arith, less, bound, reach, c.taken-taken.ensures, c.saturating_sub-free.ensures))));
    }

pub returns : goal.returns
returns g c =
    let selects = g.S.Selection.selects in
    let m = c.self.inside.selection in
    let reach : c.capacity-reach.result ≡ selects.reach m = c.capacity-reach.ensures.capacity ∙ c.self.invariant.capacity in
    let full : selects.reach m ≤ c.self.inside.core.taken = omega (arith, reach, c.taken-taken.ensures, c.saturating_sub-free.ensures, c.if-free-gt0.false) in
    let place : c.saturating_sub.result ≡ c.self.inside.core.taken - selects.reach m = omega (arith, c.saturating_sub.ensures, c.taken-taken.ensures, reach) in
    let alike = rw place at c.frame_run_from-frame_run.ensures.alike in
    record {
      ahead = rw (← c.self.view_is) (rw (c.enough.ensures, c.taken-taken.ensures) at c.wanted-ahead.ensures);
      one_to_one = rw (← c.self.view_is) (λ n bound. due-along selects g.S.Selection.determined m c.self.inside.core.taken n full (λ i less. alike i (omega (arith, less, bound)) ∙ included c.frame_run_from-frame_run.result.is_given c.if-not-frame_run.false));
      none_due = no-none_due (selected_kind selects c.args.self.now.arguments) c.args.self.now.core.taken;
    }
