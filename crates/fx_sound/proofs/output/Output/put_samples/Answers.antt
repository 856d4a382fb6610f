use Rattle.std.proofs.Common.{◌≡◌, ◌-◌, ◌*◌, length, ap, arith}
use Rattle.fx_frame_base.specs.Coding.{width_of}
use Rattle.fx_sound.proofs.Sending.{held-put}
use Rattle.fx_sound.proofs.output.Output.put_samples.Goals as goal

pub returns-clause-bytes : goal.returns-clause-bytes
returns-clause-bytes c =
    let s = c.self.inside in
    let size : length c.args.samples.now * c.width.result ≡ length c.args.samples.now * width_of c.args.coding = ap (λ w. length c.args.samples.now * w) c.width.ensures.value in
    let free : 4096 - s.end ≡ c.args.self.now.free = ap (λ o. o.free) c.self.view_is in
    rw (← c.encode_into-clips.ensures.bytes, ← c.self.view_is) (held-put s.buffer c.encode_into-clips.new.out s.start s.end (length c.args.samples.now * c.width.result) (omega arith) (omega arith) (omega (arith, c.encode_into-clips.auto.out)))
