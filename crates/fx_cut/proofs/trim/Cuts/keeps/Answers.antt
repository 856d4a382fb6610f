use Rattle.std.proofs.Common.{◌≡◌, ◌+◌, ◌-◌, sym, arith}
use Rattle.fx_cut.proofs.trim.Cuts.keeps.Goals as goal

pub returns-clause-kept : goal.returns-clause-kept
returns-clause-kept c =
    let at : c.self.inside.first + (c.args.place - c.self.inside.first) ≡ c.args.place = omega arith in
    let known = c.self.invariant.1 (c.args.place - c.self.inside.first) (omega arith) in
    rw (← c.self.view_is) (sym (rw at at known))
