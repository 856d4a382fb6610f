use Rattle.std.proofs.Common.{sym}
use Rattle.std.specs.IoError.{error_kind}
use Rattle.fx_plan.specs.Line.{texts}
use Rattle.soxchain.proofs.Converting.{line-read}
use Rattle.soxchain_cli.specs.Working.{Mute, Shown, BadWords, Worked}
use Rattle.soxchain_cli.proofs.work.Goals as goal

pub returns-in-Err : goal.returns-in-Err
returns-in-Err g c = Mute (error_kind c.in-Err.error) c.fault_of.result c.in-Err.ensures.refused c.fault_of.ensures.memory c.fault_of.ensures.words c.refuse_line.ensures.status c.refuse_line.ensures.delivered

pub returns-in-Some : goal.returns-in-Some
returns-in-Some g c = Shown c.words.new.self (texts c.in-Ok.words.items) c.in-Some.answer.now c.in-Ok.ensures.words (rw (c.deref.ensures.value) at (sym c.in-Some.ensures)) c.tell_answer.ensures

pub returns-in-Ok-parse_line : goal.returns-in-Ok-parse_line
returns-in-Ok-parse_line g c =
    Worked c.words.new.self (texts c.in-Ok.words.items) c.in-Ok-parse_line.line c.in-Ok.ensures.words
    (rw (c.deref.ensures.value) at (sym c.in_default.ensures))
    (rw (c.deref-2.ensures.value) at (line-read _ c.in-Ok-parse_line.line c.in-Ok-parse_line.ensures))
    c.work_line.ensures

pub returns : goal.returns
returns g c =
    BadWords (texts c.in-Ok.words.items) c.in-Err-parse_line.fault c.in-Ok.ensures.words
    (rw (c.deref.ensures.value) at (sym c.in_default.ensures))
    (rw (c.deref-2.ensures.value) at c.in-Err-parse_line.ensures)
    c.refuse_line-in-Err-parse_line.ensures.status c.refuse_line-in-Err-parse_line.ensures.delivered
