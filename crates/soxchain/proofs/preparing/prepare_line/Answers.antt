use Rattle.std.proofs.Common.{◌≡◌}
use Rattle.soxchain.proofs.preparing.prepare_line.Goals as goal

pub returns-in-Err-plan-clause-plan_refused : goal.returns-in-Err-plan-clause-plan_refused
returns-in-Err-plan-clause-plan_refused g c = λ f e.
    let same : c.in-Err-plan.fault ≡ f = cc in
    record {
      head = c.in-Ok.head;
      read = rw (c.input_kind.ensures) at c.in-Ok.ensures.head;
      refuses = rw same at c.in-Err-plan.ensures;
    }

pub returns-in-Err-new-clause-chain_refused : goal.returns-in-Err-new-clause-chain_refused
returns-in-Err-new-clause-chain_refused g c = λ _. record {
  head = c.in-Ok.head;
  read = rw (c.input_kind.ensures) at c.in-Ok.ensures.head;
  no_faults = c.in-Ok-plan.ensures.0;
}
