use Rattle.std.proofs.Common.{refl}
use Rattle.soxchain_plan.specs.Answering.{Cut, Whole}
use Rattle.soxchain_plan.proofs.showing.show.Goals as goal

pub returns-then-is_whole : goal.returns-then-is_whole
returns-then-is_whole g c =
    let shown = c.write_whole-is_whole.ensures in
    Whole c.output-output.new.self c.output-output.result c.write_whole-is_whole.new.writer c.output-output.ensures.output (shown.whole c.if-is_whole.true) (shown.flushed c.if-is_whole.true)
    (shown.unfailed c.if-is_whole.true) c.leave.ensures refl refl

pub returns-else-is_whole : goal.returns-else-is_whole
returns-else-is_whole g c =
    Cut c.output-output.new.self c.output-output.result c.write_whole-is_whole.new.writer c.tell.ensures.0 c.output-output.ensures.output c.output-output.ensures.fresh
    (c.write_whole-is_whole.ensures.front c.if-is_whole.false) c.leave.ensures c.tell.ensures.1
