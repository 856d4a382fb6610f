use Rattle.std.proofs.Common.{ap, Err}
use Rattle.soxchain.specs.declared.preparing.Refusal.{Refusal}
use Rattle.soxchain.proofs.ready.prepare_for.Goals as goal

pub returns-in-Err-clause-refused : goal.returns-in-Err-clause-refused
returns-in-Err-clause-refused g c =
    let refused = c.in-Err.ensures in
    record {
      refusal = c.in-Err.refusal;
      head_refused = λ f e. refused.head_refused f (ap (λ (r : Refusal). Err r) e);
      head_cut = λ f e. refused.head_cut f (ap (λ (r : Refusal). Err r) e);
      plan_refused = λ f e. refused.plan_refused f (ap (λ (r : Refusal). Err r) e);
      chain_refused = λ e. refused.chain_refused (ap (λ (r : Refusal). Err r) e);
      cause = refused.failures;
      status_is = c.status.ensures;
      delivered = c.tell_refusal.ensures;
    }
