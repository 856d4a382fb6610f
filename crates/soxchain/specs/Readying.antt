-- Why nothing is ready for a run (this project's profile).
use Rattle.std.specs.Prelude.{◌≡◌, ℕ, List, Result, Ok, Err}
use Rattle.fx_frame_base.specs.Io.{ByteReader}
use Rattle.fx_plan.specs.declared.line.LineFault.{LineFault}
use Rattle.fx_plan.specs.Line.{Said, line_of_words}
use Rattle.fx_plan.specs.declared.fault.PlanFault.{PlanFault}
use Rattle.fx_plan.specs.CommandLines.{LineReads}
use Rattle.fx_sound.specs.declared.head.HeadFault.{HeadFault}
use Rattle.fx_sound.specs.Head.{head_of}
use Rattle.fx_sound.specs.Reads.{Fails, Refuses}
use Rattle.fx_sound.specs.Source.{Held}
use Rattle.soxchain.specs.declared.preparing.Refusal.{Refusal}
use Rattle.soxchain.specs.declared.preparing.Refusal.TheVariants.{Chain, Head, Plan}
use Rattle.soxchain.specs.Messages.{line_label, line_message, refusal_message}
use Rattle.soxchain.specs.Preparing.{ChainIsRefused, PlanIsRefused, RefusalHasCause}
use Rattle.soxchain.specs.Program.{status_of_line, status_of_refusal}

-- The words are no command line, or no memory was found for it: nothing was read, and one message gives the reason.
pub record LineRefused {R : Type 0} (words : List (List ℕ)) (old new : Held R) (IsReported : List ℕ → Type 0) (status : ℕ) : Type 0 where
  pub fault : LineFault
  pub reads : LineReads (line_of_words words) ((λ (x : Result Said LineFault). x) (Err fault))
  pub status_is : status ≡ status_of_line fault
  pub unread : new ≡ old
  pub delivered : IsReported (line_message (line_label fault))

-- Nothing is ready for a line: its head or its plan is refused, or no memory was found for its chain. One message gives the
-- reason.
pub record Unready {R : Type 0} (reads : ByteReader R) (line : Said) (files : List (List ℕ)) (old new : Held R) (IsReported : List ℕ → Type 0) (status : ℕ) : Type 0 where
  pub refusal : Refusal
  pub head_refused : (f : HeadFault) → refusal ≡ Head f → Refuses reads.rest (head_of line.input_kind) old f
  pub head_cut : (f : HeadFault) → refusal ≡ Head f → Fails reads.rest reads.delivered (head_of line.input_kind) old new f
  pub plan_refused : (f : PlanFault) → refusal ≡ Plan f → PlanIsRefused reads line files old new f
  pub chain_refused : refusal ≡ Chain → ChainIsRefused reads line files old new
  pub cause : RefusalHasCause refusal (reads.failures old.reader) (reads.failures new.reader)
  pub status_is : status ≡ status_of_refusal refusal
  pub delivered : IsReported (refusal_message line refusal)

-- The words are a command line, and nothing is ready for it.
pub record LineUnready {R : Type 0} (reads : ByteReader R) (words : List (List ℕ)) (files : List (List ℕ)) (old new : Held R) (IsReported : List ℕ → Type 0) (status : ℕ) : Type 0 where
  pub line : Said
  pub is_line : line_of_words words ≡ Ok line
  pub unready : Unready reads line files old new IsReported status
