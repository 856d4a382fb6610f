use Rattle.std.proofs.Common.{refl}
use Rattle.soxchain_plan.specs.Advising.{advice_text}
use Rattle.soxchain_plan.specs.Answering.{Quoted, Delivered, Unquoted}
use Rattle.soxchain_plan.proofs.showing.stopped.Goals as goal

pub returns-in-Text : goal.returns-in-Text
returns-in-Text g c = Delivered (advice_text c.advice-advice.result) c.advice-advice.ensures c.in-Text.is refl c.tell-status.ensures

pub returns-in-Some : goal.returns-in-Some
returns-in-Some g c =
    Quoted (advice_text c.advice-advice.result) c.tell-status.new.messages c.advice-advice.ensures c.in-Json.is (record { delivered = c.tell-status.ensures.delivered; status_is = refl })
    (rw (c.deref.ensures.value, c.in-Some.ensures, c.tell-status.ensures.status_is) at c.show.ensures)

pub returns-in-None : goal.returns-in-None
returns-in-None g c =
    Unquoted (advice_text c.advice-advice.result) c.tell.ensures.0 c.tell-status.new.messages c.advice-advice.ensures c.in-Json.is refl (record { delivered = c.tell-status.ensures.delivered; status_is = refl }) c.tell.ensures.1
