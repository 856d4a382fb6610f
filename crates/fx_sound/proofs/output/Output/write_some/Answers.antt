use Rattle.std.proofs.Common.{◌-◌, ◌≤◌, refl, arith}
use Rattle.fx_sound.proofs.Held.{drop-held, length-held}
use Rattle.fx_sound.proofs.Sending.{Sent-taken}
use Rattle.fx_sound.proofs.output.Output.write_some.Goals as goal

pub returns-clause-sent : goal.returns-clause-sent
returns-clause-sent g c = λ first all s.
    let h = c.in_ok-n.ensures in
    let b = c.self.inside in
    let len = length-held b.buffer b.start b.end (omega arith) (omega arith) in
    let count : c.in_ok-n.n ≤ b.end - b.start = omega (arith, h.bound, len) in
    Sent-taken _ _ _ _ _ _ c.in_ok-n.n s
    (rw (← c.self.view_is) h.bytes)
    (rw (← c.self.view_is, len) count)
    (rw (← c.self.view_is) (drop-held b.buffer b.start b.end c.in_ok-n.n count))
    (rw (← c.self.view_is) refl)
