use Rattle.std.specs.IoError.{error_kind}
use Rattle.fx_plan.specs.Line.{texts}
use Rattle.soxchain_plan.specs.Answering.{Asked, Mute}
use Rattle.soxchain_plan.proofs.answer.Goals as goal

pub returns-in-Ok : goal.returns-in-Ok
returns-in-Ok g c = Asked c.words.new.self (texts c.in-Ok.words.items) c.in-Ok.ensures.words (rw (c.deref.ensures.value) at c.answer_words.ensures)

pub returns-in-Err : goal.returns-in-Err
returns-in-Err g c = Mute c.words.new.self (error_kind c.in-Err.error) c.fault_of.result c.in-Err.ensures.refused c.fault_of.ensures.memory c.fault_of.ensures.words c.stopped.ensures
