use Rattle.soxchain_plan.specs.Advising.{AnyAdvice, IsOptionAdvice}
use Rattle.soxchain_plan.proofs.Advised.{Stops-advice, other-line}
use Rattle.soxchain_plan.proofs.refuse_words.Goals as goal

pub returns-in-BadOption : goal.returns-in-BadOption
returns-in-BadOption g c =
    rw c.in-BadOption.is (Stops-advice _ _ _ _ _ (IsOptionAdvice c.refused_word.result.now) _ _ _ _ _ _ _ (λ advice is. (c.refused_word.result.now, c.refused_word.ensures, is)) c.stopped.ensures)

pub returns-in_default : goal.returns-in_default
returns-in_default g c = Stops-advice _ _ _ _ _ AnyAdvice _ _ _ _ _ _ _ (λ advice is. other-line _ c.args.fault advice c.in_default.not-BadOption) c.stopped-in_default.ensures
