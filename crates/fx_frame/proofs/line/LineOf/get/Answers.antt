use Rattle.std.proofs.Common.{arith}
use Rattle.fx_frame.proofs.Lines.{frame-one, frame-two}
use Rattle.fx_frame.proofs.line.LineOf.get.Goals as goal

pub returns-in-1 : goal.returns-in-1
returns-in-1 g c =
    rw (← c.self.view_is) (frame-one _ c.args.k _ _ c.channels.ensures.shape (omega arith) (omega arith) c.sample.ensures c.one.ensures)

pub returns-in-2 : goal.returns-in-2
returns-in-2 g c =
    rw (← c.self.view_is) (frame-two _ c.args.k _ _ _ c.channels.ensures.shape (omega arith) (omega arith) c.sample-in-2.ensures c.sample-in-2-2.ensures c.two.ensures)
