use Rattle.std.proofs.Common.{refl}
use Rattle.soxchain_cli.specs.Working.{Cut, Whole}
use Rattle.soxchain_cli.proofs.help.tell_answer.Goals as goal

pub returns-then-is_whole : goal.returns-then-is_whole
returns-then-is_whole g c =
    Whole c.output-output.new.self c.output-output.result c.write_whole-is_whole.new.writer c.output-output.ensures.output
    (rw (c.as_bytes.ensures.value) at (c.write_whole-is_whole.ensures.whole c.if-is_whole.true))
    (c.write_whole-is_whole.ensures.flushed c.if-is_whole.true)
    (c.write_whole-is_whole.ensures.unfailed c.if-is_whole.true)
    c.leave.ensures refl refl

pub returns-else-is_whole : goal.returns-else-is_whole
returns-else-is_whole g c =
    Cut c.output-output.new.self c.output-output.result c.write_whole-is_whole.new.writer c.output-output.ensures.output c.output-output.ensures.fresh
    (rw (c.as_bytes.ensures.value) at (c.write_whole-is_whole.ensures.front c.if-is_whole.false))
    c.leave.ensures c.cannot_open.ensures.status c.cannot_open.ensures.delivered
