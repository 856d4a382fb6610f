-- Why a conversion stopped whose command line was accepted (this project's profile).
use Rattle.fx_chain_run.specs.declared.report.RunFault.{RunFault}
use Rattle.soxchain.specs.declared.preparing.Refusal.{Refusal}

-- before its run, and then nothing was written; or the run stopped
pub data Stop : Type 0 where
  Refused : (r : Refusal) → Stop
  Run : (f : RunFault) → Stop
