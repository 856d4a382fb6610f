-- The results of the program (this project's profile).
use Rattle.std.specs.Prelude.{◌≡◌, ℕ, List, Result, Ok, Err}
use Rattle.fx_chain_run.specs.declared.report.Report.{Report}
use Rattle.fx_chain_run.specs.Report.{no_report, report_at}
use Rattle.fx_plan.specs.declared.line.LineFault.{LineFault}
use Rattle.fx_plan.specs.declared.line.LineFault.TheVariants as LineFaults
use Rattle.fx_plan.specs.Line.{Said}
use Rattle.fx_plan_words.specs.declared.fault.PlanCause.{PlanCause}
use Rattle.fx_plan_words.specs.declared.fault.PlanCause.TheVariants.{Memory}
use Rattle.soxchain.specs.declared.preparing.Refusal.{Refusal}
use Rattle.soxchain.specs.declared.preparing.Refusal.TheVariants.{Head, Plan, Chain}
use Rattle.soxchain.specs.Messages.{line_label, line_message, outcome_messages}
use Rattle.soxchain.specs.Stops.{Stop, Refused, Run}

-- 1 for a command line that is refused, and 2 where memory was refused
abbrev pub status_of_line : LineFault → ℕ
status_of_line LineFaults.MissingFile = 1
status_of_line LineFaults.BadOption = 1
status_of_line LineFaults.NoOutputType = 1
status_of_line LineFaults.BadBits = 1
status_of_line LineFaults.Memory = 2

-- 1 for effects that are refused, and 2 where memory was refused
abbrev pub status_of_plan : PlanCause → ℕ
status_of_plan Memory = 2
status_of_plan cause = 1

-- 1 for a fault of the plan, memory excepted, and 2 for all else
abbrev pub status_of_refusal : Refusal → ℕ
status_of_refusal (Head f) = 2
status_of_refusal (Plan f) = status_of_plan f.cause
status_of_refusal Chain = 2

-- 0 where all went well
abbrev pub outcome_status : Result Report Stop → ℕ
outcome_status (Ok r) = 0
outcome_status (Err (Refused r)) = status_of_refusal r
outcome_status (Err (Run f)) = 2

-- what was done: nothing where there was no run
abbrev pub report_of : Result Report Stop → Report
report_of (Ok r) = r
report_of (Err (Refused r)) = no_report
report_of (Err (Run f)) = report_at f

-- an outcome with this property, and status, report and messages that follow from it
pub record Answers (line : Said) (IsOutcome : Result Report Stop → Type 0) (IsReported : List ℕ → Type 0) (status : ℕ) (report : Report) : Type 0 where
  pub outcome : Result Report Stop
  pub is : IsOutcome outcome
  pub status_is : status ≡ outcome_status outcome
  pub report_is : report ≡ report_of outcome
  pub delivered : IsReported (outcome_messages line outcome)

-- The result of a command line: one message where it is refused, with nothing read or written, and else the result for it.
abbrev pub Concludes : (Said → Result Report Stop → Type 0) → Type 0 → (List ℕ → Type 0) → ℕ → Report → Result Said LineFault → Type 0
Concludes IsOutcome Untouched IsReported status report (Err fault) =
    (status ≡ status_of_line fault) × (report ≡ no_report) × Untouched × IsReported (line_message (line_label fault))
Concludes IsOutcome Untouched IsReported status report (Ok line) = Answers line (IsOutcome line) IsReported status report
