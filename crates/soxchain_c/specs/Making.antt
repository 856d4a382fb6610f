-- The stream that words make, or why there is none (this project's profile).
use Rattle.std.specs.Prelude.{◌≡◌, ◌≢◌, ◌⊎◌, ◌<◌, ◌≤◌, ℕ, pos, List, [], ◌∷◌, codes, Option, None, Some, Result, Ok, Err}
use Rattle.fx_chain.specs.Chain.{IsNewChain}
use Rattle.fx_frame_base.specs.declared.coding.Coding.TheVariants.{S32Be}
use Rattle.fx_plan.specs.declared.bits.Bits.TheVariants.{ThirtyTwo}
use Rattle.fx_plan.specs.declared.line.LineFault.TheVariants.{Memory}
use Rattle.fx_plan.specs.Line.{Said, texts}
use Rattle.fx_plan.specs.CommandLines.{effects_in, planning_in}
use Rattle.fx_plan.specs.Plans.{head_layout, RefusesPlan, all_faults, plan_bytes}
use Rattle.fx_sound.specs.declared.head.Head.{Head}
use Rattle.fx_sound.specs.declared.head.Kind.TheVariants.{Au}
use Rattle.soxchain.specs.declared.preparing.Refusal.{Refusal}
use Rattle.soxchain.specs.declared.preparing.Refusal.TheVariants as Refusals
use Rattle.soxchain.specs.Messages.{line_label, line_message, refusal_message}
use Rattle.soxchain.specs.Program.{status_of_refusal}
use Rattle.soxchain_c.specs.declared.asked.Asked.{Asked}
use Rattle.soxchain_c.specs.declared.status.Status.{Status}
use Rattle.soxchain_c.specs.declared.status.Status.TheVariants.{BadChannels, BadRate, Fine, NoMemory}
use Rattle.soxchain_stream.specs.declared.stream.Stream.{Stream}
use Rattle.soxchain_c.specs.declared.texts.TextFault.{TextFault}
use Rattle.soxchain_c.specs.Asked.{FaultAnswers, UnreadWords}
use Rattle.soxchain_c.specs.Messages.{ReportedBytes}
use Rattle.soxchain_c.specs.Status.{code}
use Rattle.soxchain_c.specs.Texts.{AreEnds, AreTexts, cut}

-- the head of a sound of 32 bits whose length is not known
pub record IsHeadAt (rate channels : ℕ) (head : Head) : Type 0 where
  pub kind : head.kind ≡ Au
  pub rate_is : head.rate ≡ rate
  pub channels_are : head.channels ≡ channels
  pub coding : head.coding ≡ S32Be
  pub announced : head.announced ≡ None

-- the words of a command line from and to a standard stream, before the words of effects
abbrev pub stream_words : List (List ℕ) → List (List ℕ)
stream_words words = codes "-" ∷ codes "-t" ∷ codes "au" ∷ codes "-b" ∷ codes "32" ∷ codes "-" ∷ words

-- the meaning of these words
abbrev pub stream_line : List (List ℕ) → Said
stream_line words = record { input_kind = None; input = codes "-"; output_kind = Au; bits = Some ThirtyTwo; output = codes "-"; effects = words }

-- A new stream of this line's effects, for sounds of this head.
pub record IsStreamOf (line : Said) (files : List (List ℕ)) (head : Head) (s : Stream) : Type 0 where
  pub no_faults : all_faults (head_layout head) files (effects_in line) ≡ []
  pub planned : s.chain.plan ≡ planning_in head line files
  pub new : IsNewChain s.chain.plan s.chain

-- why a line's effects make no stream: by their first fault, or for lack of memory
abbrev pub IsRefusalOf : Said → List (List ℕ) → Head → Refusal → Type 0
IsRefusalOf line files head (Refusals.Plan f) = RefusesPlan f (all_faults (head_layout head) files (effects_in line))
IsRefusalOf line files head Refusals.Chain = all_faults (head_layout head) files (effects_in line) ≡ []
IsRefusalOf line files head (Refusals.Head f) = ⊥

-- The effects are refused, or no memory was found for the chain.
pub record RefusesEffects (line : Said) (files : List (List ℕ)) (head : Head) (IsReported : List ℕ → Type 0) (status : ℕ) : Type 0 where
  pub refusal : Refusal
  pub is : IsRefusalOf line files head refusal
  pub status_is : status ≡ status_of_refusal refusal
  pub delivered : IsReported (refusal_message line refusal)

-- No stream was made, and one message gives the reason: the effects are refused, or no memory was found for the words.
abbrev pub RefusesStream : Said → List (List ℕ) → Head → (List ℕ → Type 0) → ℕ → Type 0
RefusesStream line files head IsReported status =
    RefusesEffects line files head IsReported status ⊎ ((status ≡ 2) × IsReported (line_message (line_label Memory)))

-- why C gets no stream of a line's effects: with the reason in the message, or since no memory was found for the stream itself
abbrev pub LacksStream : Said → List (List ℕ) → Head → (List ℕ → Type 0) → Type 0 → Status → Type 0
LacksStream line files head IsReported IsSilent status =
    ((number : ℕ) × (code status ≡ pos number) × RefusesStream line files head IsReported number) ⊎ ((status ≡ NoMemory) × IsSilent)

-- The handle owns a stream of these words and files; or it is unchanged, and this is the reason.
abbrev pub MakeAnswers : Result Asked TextFault → Head → Option Stream → Option Stream → (List ℕ → Type 0) → Type 0 → Status → Type 0
MakeAnswers (Ok asked) head old new IsReported IsSilent status =
    ((status ≡ Fine) × IsSilent × ((s : Stream) × (new ≡ Some s) × IsStreamOf (stream_line (texts asked.words.items)) (plan_bytes asked.files.items) head s))
    ⊎ ((status ≢ Fine) × (new ≡ old) × LacksStream (stream_line (texts asked.words.items)) (plan_bytes asked.files.items) head IsReported IsSilent status)
MakeAnswers (Err fault) head old new IsReported IsSilent status = (status ≢ Fine) × (new ≡ old) × FaultAnswers fault IsReported IsSilent status

-- The words and files were read, and make this stream, at this rate and for `channels` channels.
pub record Makes (words word_ends files file_ends : List ℕ) (rate channels : ℕ) (s : Stream) : Type 0 where
  pub words_end : AreEnds words 0 word_ends
  pub files_end : AreEnds files 0 file_ends
  pub are_texts : AreTexts (cut words 0 word_ends)
  pub head : Head
  pub is_head : IsHeadAt rate channels head
  pub is : IsStreamOf (stream_line (cut words 0 word_ends)) (cut files 0 file_ends) head s

-- The words and files were read, and make no stream.
pub record MakesNone (words word_ends files file_ends : List ℕ) (rate channels : ℕ) (delivered : List ℕ) (status : Status) : Type 0 where
  pub words_end : AreEnds words 0 word_ends
  pub files_end : AreEnds files 0 file_ends
  pub are_texts : AreTexts (cut words 0 word_ends)
  pub head : Head
  pub is_head : IsHeadAt rate channels head
  pub lacks : LacksStream (stream_line (cut words 0 word_ends)) (cut files 0 file_ends) head (ReportedBytes delivered) (delivered ≡ []) status

-- why no stream is made, and what is reported then
abbrev pub RefusesNew : List ℕ → List ℕ → List ℕ → List ℕ → ℕ → ℕ → List ℕ → Status → Type 0
RefusesNew words word_ends files file_ends rate channels delivered status =
    ((status ≡ BadRate) × (rate ≡ 0) × (delivered ≡ []))
    ⊎ ((status ≡ BadChannels) × (0 < rate) × ((channels ≡ 0) ⊎ (16 < channels)) × (delivered ≡ []))
    ⊎ ((0 < rate) × (1 ≤ channels) × (channels ≤ 16) × UnreadWords words word_ends files file_ends (ReportedBytes delivered) (delivered ≡ []) status)
    ⊎ MakesNone words word_ends files file_ends rate channels delivered status

-- The handle owns a new stream, and no message is written; or it is unchanged, and this is the reason.
abbrev pub NewAnswers : List ℕ → List ℕ → List ℕ → List ℕ → ℕ → ℕ → List ℕ → Option Stream → Option Stream → Status → Type 0
NewAnswers words word_ends files file_ends rate channels delivered old new status =
    ((status ≡ Fine) × (delivered ≡ []) × ((s : Stream) × (new ≡ Some s) × Makes words word_ends files file_ends rate channels s))
    ⊎ ((status ≢ Fine) × (new ≡ old) × RefusesNew words word_ends files file_ends rate channels delivered status)
