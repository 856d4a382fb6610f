use Rattle.std.proofs.Common.{pos, arith}
use Rattle.fx_frame.proofs.Lines.{none-history}
use Rattle.fx_frame.proofs.line.LineOf+i32.sample_back.Goals as goal

pub returns-then-channel-channels : goal.returns-then-channel-channels
returns-then-channel-channels c =
    rw (← c.self.view_is) (none-history c.self.inside.ring c.args.k c.args.channel (pos 0) c.channels.ensures.shape (omega arith) (omega arith))
