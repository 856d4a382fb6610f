-- Why there is no plan, as soxchain reports it (this project's profile).
use Rattle.std.specs.Prelude.{ℕ, List}
use Rattle.fx_plan.specs.declared.line.LineFault.TheVariants as LineFaults
use Rattle.soxchain.specs.declared.preparing.Refusal.TheVariants as Refusals
use Rattle.soxchain.specs.FileMessages.{open_message}
use Rattle.soxchain.specs.Messages.{line_label, line_message, refusal_message}
use Rattle.soxchain.specs.Program.{status_of_line, status_of_refusal}
use Rattle.soxchain_plan.specs.declared.stop.PlanStop.{PlanStop}
use Rattle.soxchain_plan.specs.declared.stop.PlanStop.TheVariants.{Line, BadOption, CannotOpen, CannotCreate, Head, Refused}

-- the message of soxchain
abbrev pub message_of : PlanStop → List ℕ
message_of (Line fault) = line_message (line_label fault)
message_of (BadOption word) = line_message (line_label LineFaults.BadOption)
message_of (CannotOpen name) = open_message name.now
message_of (CannotCreate name fault) = open_message name.now
message_of (Head line fault format) = refusal_message line.now (Refusals.Head fault)
message_of (Refused line refusal) = refusal_message line.now refusal

-- its status
abbrev pub status_of : PlanStop → ℕ
status_of (Line fault) = status_of_line fault
status_of (BadOption word) = status_of_line LineFaults.BadOption
status_of (CannotOpen name) = 2
status_of (CannotCreate name fault) = 2
status_of (Head line fault format) = status_of_refusal (Refusals.Head fault)
status_of (Refused line refusal) = status_of_refusal refusal
