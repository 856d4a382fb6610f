use Rattle.fx_plan.specs.CommandLines.{file_name}
use Rattle.soxchain_plan.specs.Advising.{IsFaultAdvice}
use Rattle.soxchain_plan.specs.Answering.{Named, Read, Refused, Standard, Unopened}
use Rattle.soxchain_plan.proofs.Advised.{Stops-advice, head-advice}
use Rattle.soxchain_plan.proofs.Naming.{of_stream}
use Rattle.soxchain_plan.proofs.answer_files.Goals as goal

pub returns-in-Ok-head : goal.returns-in-Ok-head
returns-in-Ok-head g c =
    of_stream (file_name c.args.line.now.input)
    (λ none. let from = c.in-Ok.ensures.standard none in Standard c.head_of.new.host from.reader none from.is_reader from.fresh (Read c.in-Ok-head.head c.in-Ok.read.end (rw c.in-Ok-head.is at from.read) from.end c.plan_line.ensures))
    (λ name some. let from = c.in-Ok.ensures.file name some in Named c.head_of.new.host name from.reader some from.is_opened from.fresh (Read c.in-Ok-head.head c.in-Ok.read.end (rw c.in-Ok-head.is at from.read) from.end c.plan_line.ensures))

pub returns-in-Err-head : goal.returns-in-Err-head
returns-in-Err-head g c =
    let fault = c.in-Err-head.fault in
    let format = c.in-Ok.read.format in
    of_stream (file_name c.args.line.now.input)
    (λ none. let from = c.in-Ok.ensures.standard none in Standard c.head_of.new.host from.reader none from.is_reader from.fresh (Refused fault (rw c.in-Err-head.is at from.read)
    (Stops-advice _ _ _ _ _ (IsFaultAdvice fault format) _ _ _ _ _ _ _ (λ advice is. head-advice _ fault format advice from.format is) c.stopped-in-Err-head.ensures)))
    (λ name some. let from = c.in-Ok.ensures.file name some in Named c.head_of.new.host name from.reader some from.is_opened from.fresh (Refused fault (rw c.in-Err-head.is at from.read)
    (Stops-advice _ _ _ _ _ (IsFaultAdvice fault format) _ _ _ _ _ _ _ (λ advice is. head-advice _ fault format advice from.format is) c.stopped-in-Err-head.ensures)))

pub returns-in-Err : goal.returns-in-Err
returns-in-Err g c = Unopened c.head_of.new.host c.in-Err.name.now c.in-Err.ensures.unopened.0 c.in-Err.ensures.unopened.1 c.stopped.ensures
