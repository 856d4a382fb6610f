use Rattle.std.proofs.Common.{◌≡◌, ◌-◌, length, ap, arith, refl}
use Rattle.fx_sound.proofs.Sending.{held-put}
use Rattle.fx_sound.proofs.output.Output.put.Goals as goal

pub returns-clause-bytes : goal.returns-clause-bytes
returns-clause-bytes c =
    let s = c.self.inside in
    let free : 4096 - s.end ≡ c.args.self.now.free = ap (λ o. o.free) c.self.view_is in
    rw (c.copy_from_slice.ensures.after, ← c.self.view_is) (held-put s.buffer c.args.bytes.now s.start s.end (length c.args.bytes.now) (omega arith) (omega arith) refl)
