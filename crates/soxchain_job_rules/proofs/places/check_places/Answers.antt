use Rattle.soxchain_job_rules.proofs.Apart.{AreApart-next, IsFirstClash-at}
use Rattle.soxchain_job_rules.proofs.places.check_places.Goals as goal

pub returns-in-Some-clause-clash : goal.returns-in-Some-clause-clash
returns-in-Some-clause-clash c =
    IsFirstClash-at _ _ _ _ _ c.loop-index-test.true c.loop-index.invariant c.in-Some.ensures.some

pub loop-index-preserved : goal.loop-index-preserved
loop-index-preserved c =
    AreApart-next _ _ _ _ c.loop-index-test.true c.loop-index.invariant c.in_default.ensures.no_input c.in_default.ensures.no_own
