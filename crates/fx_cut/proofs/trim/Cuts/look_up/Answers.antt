use Rattle.std.proofs.Common.{◌≡◌, ◌+◌, sym, arith}
use Rattle.fx_cut.proofs.trim.Cuts.look_up.Goals as goal

pub invariant_of-self : goal.invariant_of-self
invariant_of-self c = (c.self.invariant.0, rw c.deref.ensures.value at c.frame_run_from-frame_run.ensures.alike)

pub returns-clause-kept : goal.returns-clause-kept
returns-clause-kept c =
    let some = c.frame_run_from-frame_run.ensures.some in
    let here : c.args.place + 0 ≡ c.args.place = omega arith in
    let known = (rw c.deref.ensures.value at c.frame_run_from-frame_run.ensures.alike) 0 (omega arith) in
    rw (← c.self.view_is) (sym (rw here at known))
