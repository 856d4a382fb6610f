use Rattle.std.proofs.Common.{arith, sym}
use Rattle.fx_fixed.proofs.count.whole_frames.Goals as goal
use Rattle.fx_fixed.proofs.Counting.{far_raised, far_number, far_lowered}

pub returns-then-raised-lowered-gt12 : goal.returns-then-raised-lowered-gt12
returns-then-raised-lowered-gt12 c = sym (far_raised c.args.number c.args.raised c.args.lowered (omega arith) (omega arith) (omega arith))

pub returns-then-lowered-raised-gt36 : goal.returns-then-lowered-raised-gt36
returns-then-lowered-raised-gt36 c = sym (far_lowered c.args.number c.args.raised c.args.lowered (omega arith) (omega arith) (omega arith) (omega arith))

pub returns-then-number-from : goal.returns-then-number-from
returns-then-number-from c = sym (far_number c.args.number c.args.raised c.args.lowered (omega arith) (omega arith))
