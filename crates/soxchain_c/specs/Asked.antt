-- Why words and files cannot be read, and what is then returned (this project's profile; packaging/soxchain.h).
use Rattle.std.specs.Prelude.{◌≡◌, ◌⊎◌, ℕ, List}
use Rattle.fx_plan.specs.declared.line.LineFault.TheVariants as LineFaults
use Rattle.soxchain.specs.Messages.{line_label, line_message}
use Rattle.soxchain_c.specs.declared.status.Status.{Status}
use Rattle.soxchain_c.specs.declared.status.Status.TheVariants as Statuses
use Rattle.soxchain_c.specs.declared.texts.TextFault.{TextFault}
use Rattle.soxchain_c.specs.declared.texts.TextFault.TheVariants.{BadEnds, NotText, Memory}
use Rattle.soxchain_c.specs.Texts.{AreEnds, AreTexts, FindsBadEnd, FindsEnds, FindsNoText, FindsTexts, cut}

-- the first fault of these words and files, words before files; lack of memory only after a word, or a file, that has no fault
abbrev pub IsFault : TextFault → List ℕ → List ℕ → List ℕ → List ℕ → Type 0
IsFault BadEnds words word_ends files file_ends =
    FindsBadEnd words 0 word_ends ⊎ (AreEnds words 0 word_ends × AreTexts (cut words 0 word_ends) × (AreEnds files 0 file_ends → ⊥))
IsFault NotText words word_ends files file_ends = FindsNoText words 0 word_ends
IsFault Memory words word_ends files file_ends =
    FindsTexts words 0 word_ends ⊎ (AreEnds words 0 word_ends × AreTexts (cut words 0 word_ends) × FindsEnds files 0 file_ends)

-- The result for a fault: a word that is not UTF-8 and lack of memory are reported as the program reports them.
abbrev pub FaultAnswers : TextFault → (List ℕ → Type 0) → Type 0 → Status → Type 0
FaultAnswers BadEnds IsReported IsSilent status = (status ≡ Statuses.BadEnds) × IsSilent
FaultAnswers NotText IsReported IsSilent status = (status ≡ Statuses.Refused) × IsReported (line_message (line_label LineFaults.BadOption))
FaultAnswers Memory IsReported IsSilent status = (status ≡ Statuses.Failed) × IsReported (line_message (line_label LineFaults.Memory))

-- The words and files cannot be read.
pub record UnreadWords (words word_ends files file_ends : List ℕ) (IsReported : List ℕ → Type 0) (IsSilent : Type 0) (status : Status) : Type 0 where
  pub fault : TextFault
  pub is : IsFault fault words word_ends files file_ends
  pub answers : FaultAnswers fault IsReported IsSilent status
