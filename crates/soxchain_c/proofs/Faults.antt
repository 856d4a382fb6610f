-- Why words and files cannot be read, or make no stream, and what follows of it.
use Rattle.std.proofs.Common.{◌≡◌, ◌<◌, ◌≤◌, ℕ, List, [], Option, Result, Ok, Err, IfOk, IfErr, OnOk, inl, inr}
use Rattle.fx_plan.specs.Line.{Said, texts}
use Rattle.fx_plan.specs.Plans.{plan_bytes}
use Rattle.fx_sound.specs.declared.head.Head.{Head}
use Rattle.soxchain_c.specs.declared.asked.Asked.{Asked}
use Rattle.soxchain_c.specs.declared.status.Status.{Status}
use Rattle.soxchain_stream.specs.declared.stream.Stream.{Stream}
use Rattle.soxchain_c.specs.declared.texts.TextFault.{TextFault}
use Rattle.soxchain_c.specs.declared.texts.TextFault.TheVariants.{BadEnds, NotText, Memory}
use Rattle.soxchain_c.specs.Asked.{FaultAnswers, IsFault}
use Rattle.soxchain_c.specs.Making.{IsHeadAt, LacksStream, MakeAnswers, NewAnswers, RefusesStream}
use Rattle.soxchain_c.specs.Messages.{ReportedBytes}
use Rattle.soxchain_c.specs.Texts.{AreEnds, AreTexts, cut}

-- what is answered is told more weakly
pub fault-more : {T S : List ℕ → Type 0} {U V : Type 0} (fault : TextFault) (status : Status) → ((text : List ℕ) → T text → S text) → (U → V) → FaultAnswers fault T U status → FaultAnswers fault S V status
fault-more BadEnds status delivered silent answers = (answers.0, silent answers.1)
fault-more NotText status delivered silent answers = (answers.0, delivered _ answers.1)
fault-more Memory status delivered silent answers = (answers.0, delivered _ answers.1)

pub refuses-more : {T S : List ℕ → Type 0} (line : Said) (files : List (List ℕ)) (head : Head) (number : ℕ) → ((text : List ℕ) → T text → S text) → RefusesStream line files head T number → RefusesStream line files head S number
refuses-more line files head number delivered (inl r) = inl (record { refusal = r.refusal; is = r.is; status_is = r.status_is; delivered = delivered _ r.delivered })
refuses-more line files head number delivered (inr r) = inr (r.0, delivered _ r.1)

pub lacks-more : {T S : List ℕ → Type 0} {U V : Type 0} (line : Said) (files : List (List ℕ)) (head : Head) (status : Status) → ((text : List ℕ) → T text → S text) → (U → V)
    → LacksStream line files head T U status → LacksStream line files head S V status
lacks-more line files head status delivered silent (inl l) = inl (l.0, l.1, refuses-more line files head l.0 delivered l.2)
lacks-more line files head status delivered silent (inr l) = inr (l.0, silent l.1)

-- a stream that is made of what was read is that of the bytes, and so is its refusal
pub new-answers : {T : List ℕ → Type 0} {U : Type 0} (asked : Result Asked TextFault) (words word_ends files file_ends : List ℕ) (rate channels : ℕ) (head : Head) (delivered : List ℕ) (old new : Option Stream) (status : Status)
    → IfOk asked (λ a. texts a.words.items ≡ cut words 0 word_ends) → IfOk asked (λ a. plan_bytes a.files.items ≡ cut files 0 file_ends) → OnOk asked (AreEnds words 0 word_ends × AreEnds files 0 file_ends)
    → OnOk asked (AreTexts (cut words 0 word_ends)) → IfErr asked (λ fault. IsFault fault words word_ends files file_ends) → IsHeadAt rate channels head
    → (0 < rate) × (1 ≤ channels) × (channels ≤ 16) → ((text : List ℕ) → T text → ReportedBytes delivered text) → (U → delivered ≡ []) → MakeAnswers asked head old new T U status → NewAnswers words word_ends files file_ends rate channels delivered old new status
new-answers (Ok a) words word_ends files file_ends rate channels head delivered old new status is_words are_files ends are_texts is is_head right more silent (inl m) =
    inl (m.0, silent m.1, (m.2.0, m.2.1, record { words_end = ends.0; files_end = ends.1; are_texts = are_texts; head = head; is_head = is_head; is = rw (is_words, are_files) at m.2.2 }))
new-answers (Ok a) words word_ends files file_ends rate channels head delivered old new status is_words are_files ends are_texts is is_head right more silent (inr m) =
    let lacks = lacks-more _ _ head status more silent m.2 in
    inr (m.0, m.1, inr (inr (inr (record { words_end = ends.0; files_end = ends.1; are_texts = are_texts; head = head; is_head = is_head; lacks = rw (is_words, are_files) at lacks }))))
new-answers (Err fault) words word_ends files file_ends rate channels head delivered old new status is_words are_files ends are_texts is is_head right more silent m =
    inr (m.0, m.1, inr (inr (inl (right.0, right.1, right.2, record { fault = fault; is = is; answers = fault-more fault status more silent m.2 }))))
