use Rattle.std.proofs.Common.{◌≡◌, ◌-◌, ◌*◌, length, ap, sym, ◌∙◌, arith, refl}
use Rattle.std.proofs.lemmas.List.{length-append}
use Rattle.fx_frame_base.specs.Coding.{width_of}
use Rattle.fx_sound.specs.FrameCoding.{bytes_of}
use Rattle.fx_sound.proofs.Sending.{held-put}
use Rattle.fx_sound.proofs.output.Output.put_coded.Goals as goal

pub returns-clause-bytes : goal.returns-clause-bytes
returns-clause-bytes c =
    let s = c.self.inside in
    let free : 4096 - s.end ≡ c.args.self.now.free = ap (λ o. o.free) c.self.view_is in
    let size : c.channels.result * c.width.result ≡ length c.args.frame.now * width_of c.args.coding = rw (c.channels.ensures.count, c.width.ensures.value) refl in
    rw (← c.encode-clips.ensures.bytes, ← c.self.view_is) (held-put s.buffer c.encode-clips.new.out s.start s.end (c.channels.result * c.width.result) (omega arith) (omega arith) (c.encode-clips.ensures.size ∙ sym size))

pub returns-clause-count : goal.returns-clause-count
returns-clause-count c =
    let size : length (bytes_of c.args.coding c.args.frame.now) ≡ length c.args.frame.now * width_of c.args.coding = ap length (sym c.encode-clips.ensures.bytes) ∙ c.encode-clips.ensures.size in
    let written : c.self.inside.written ≡ c.args.self.now.written = ap (λ o. o.written) c.self.view_is in
    let bytes = ap length (returns-clause-bytes c) ∙ length-append c.args.self.now.bytes (bytes_of c.args.coding c.args.frame.now) in
    omega (arith, bytes)
