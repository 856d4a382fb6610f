use Rattle.std.proofs.Common.{◌≡◌, ◌+◌, ◌-◌, arith}
use Rattle.std.proofs.lemmas.Bool.{ltb-true}
use Rattle.fx_cut.proofs.pad.Pads.is_clear.Goals as goal

pub returns-then-self-place : goal.returns-then-self-place
returns-then-self-place c = λ known.
    let at : c.self.inside.first + (c.args.place - c.self.inside.first) ≡ c.args.place = omega arith in
    let clear_frames = c.self.invariant (c.args.place - c.self.inside.first) (ltb-true (c.args.place - c.self.inside.first) c.self.inside.clear_frames known) in
    rw (← c.self.view_is) (rw at at clear_frames)
