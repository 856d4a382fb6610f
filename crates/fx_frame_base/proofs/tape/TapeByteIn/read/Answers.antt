use Rattle.std.proofs.Common.{◌+◌, ◌≤◌, drop, length, arith}
use Rattle.fx_frame_base.proofs.Bytes.{take-copied, drop_in-two}
use Rattle.fx_frame_base.proofs.tape.TapeByteIn.read.Goals as goal

pub returns-clause-bytes : goal.returns-clause-bytes
returns-clause-bytes c =
    let within : c.self.inside.position + c.min-n.result ≤ length c.self.inside.bytes.items = omega arith in
    let front = take-copied c.self.inside.bytes.items (drop (0 + c.min-n.result) c.args.buffer.now) _ _ within in
    let parts = drop_in-two c.self.inside.bytes.items c.self.inside.position c.min-n.result in
    rw (← c.self.view_is, c.copy_part.ensures, c.as_slice.ensures.value, front) parts
