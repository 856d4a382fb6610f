-- What a run reports (this project's profile).
use Rattle.std.specs.Prelude.{◌≡◌, ◌≢◌, ◌⊎◌, ℕ, ◌+◌, ◌-◌, ◌*◌, ◌%◌, ◌==◌, ◌≤◌, Bool, true, false, cond, not, ◌&&◌, MatchBool, sum, List, [], ◌∷◌, ◌++◌, drop, length, map, replicate, take, Option, None, Result, Ok, Err}
use Rattle.fx_frame_base.specs.declared.coding.Coding.{Coding}
use Rattle.fx_frame_base.specs.Frame.{Samples}
use Rattle.fx_frame_base.specs.Holds.{kinds, recipes, total}
use Rattle.fx_frame_base.specs.Io.{saturated}
use Rattle.fx_frame_base.specs.Stage.{Acts}
use Rattle.fx_chain_flow.specs.Parts.{AllNew, Parts}
use Rattle.fx_chain_flow.specs.Composed.{Whole, due_of, enough_for}
use Rattle.fx_chain_flow.specs.Steps.{IsDone, IsHungry, rest_of, wholes_of}
use Rattle.fx_sound.specs.declared.head.Kind.{Kind}
use Rattle.fx_sound.specs.declared.head.Kind.TheVariants.{Wav, Au}
use Rattle.fx_frame_base.specs.declared.stage.TheConstants.{MAX_FRAMES}
use Rattle.fx_sound.specs.Sound.{Reading, size_of, within_sound}
use Rattle.fx_sound.specs.Source.{Held}
use Rattle.fx_sound.specs.Writing.{written_head}
use Rattle.fx_chain_run.specs.declared.pump.Cause.{Cause}
use Rattle.fx_chain_run.specs.declared.pump.Cause.TheVariants as Causes
use Rattle.fx_chain_run.specs.declared.report.Report.{Report}
use Rattle.fx_chain_run.specs.declared.report.RunFault.{RunFault}
use Rattle.fx_chain_run.specs.declared.report.RunFault.TheVariants.{ReadFailed, WriteFailed, TooLong}
use Rattle.fx_chain_run.specs.declared.target.Target.{Target}
use Rattle.fx_chain_run.specs.Due.{clips_due, dues}
use Rattle.fx_chain_run.specs.FrameWriter.{WroteAll, WroteFront, coded, coded_clips}
use Rattle.fx_chain_run.specs.Run.{RanToEnd}
use Rattle.fx_sound.specs.Container.{ReadAllDelivered}
pub use Rattle.fx_sound.specs.Container.{start_of}
use Rattle.fx_chain_run.specs.Through.{Reached}

-- the report that comes with a fault
abbrev pub report_at : RunFault → Report
report_at (ReadFailed r) = r
report_at (WriteFailed r) = r
report_at (TooLong r) = r

-- the number of a fault, counted from 1 in the order of its declaration
abbrev pub number_of_fault : RunFault → ℕ
number_of_fault (ReadFailed r) = 1
number_of_fault (WriteFailed r) = 2
number_of_fault (TooLong r) = 3

-- the report of a run, with or without a fault
abbrev pub report_in : Result Report RunFault → Report
report_in (Ok r) = r
report_in (Err f) = report_at f

-- why a run stopped, where it did
abbrev pub cause_of : RunFault → Cause
cause_of (ReadFailed r) = Causes.ReadFailed
cause_of (WriteFailed r) = Causes.WriteFailed
cause_of (TooLong r) = Causes.TooLong

-- A fault is returned where its cause was counted, and no other failure was. Where the writer failed, a read may have failed
-- before it, in that case.
abbrev pub HasCause : Cause → Type 0 → ℕ → ℕ → ℕ → ℕ → Type 0
HasCause Causes.ReadFailed Before reads new_reads writes new_writes = (new_reads ≡ saturated (reads + 1)) × (new_writes ≡ writes)
HasCause Causes.WriteFailed Before reads new_reads writes new_writes = ((new_reads ≡ reads) ⊎ ((new_reads ≡ saturated (reads + 1)) × Before)) × (new_writes ≡ saturated (writes + 1))
HasCause Causes.TooLong Before reads new_reads writes new_writes = (new_reads ≡ reads) × (new_writes ≡ writes)

-- the bytes after the frames that were read of a sound, and after its stray bytes
abbrev pub after_reported : Reading → Report → List ℕ → List ℕ
after_reported start r bytes = drop (r.frames_in * size_of start + r.stray) bytes

-- The position of a source after a run: there, or, after a failed read, where it holds what came. A read may have failed before
-- a write did.
abbrev pub Stands : Result Report RunFault → Type 0 → Type 0 → Type 0 → Type 0
Stands (Ok r) There Holds Before = There
Stands (Err (ReadFailed r)) There Holds Before = Holds
Stands (Err (WriteFailed r)) There Holds Before = There ⊎ (Holds × Before)
Stands (Err (TooLong r)) There Holds Before = There

-- the report of a conversion that ended before its run
abbrev pub no_report : Report
no_report = record { frames_in = 0; frames_out = 0; bytes_out = 0; moves = 0; clips = replicate 32 0; out_clips = 0; missing = 0; stray = 0 }

-- counts of at most 32 effects, and 0 after the last
abbrev pub clip_counts_of : List ℕ → List ℕ
clip_counts_of counts = counts ++ replicate (32 - length counts) 0

-- the streamed head of what is written
abbrev pub head_for : Target → List ℕ
head_for t = written_head t.kind t.rate t.channels t.coding None

-- a zero byte after an odd number of bytes of sound in a WAVE file (RIFF WAVE: chunks have even lengths)
abbrev pub pad : Kind → Bool → ℕ → List ℕ
pad Wav true n = cond (n % 2 == 1) (0 ∷ []) []
pad Wav false n = []
pad Au named n = []

-- what is written for frames: the streamed head, the frames, and the pad byte
abbrev pub output_of : Target → List Samples → List ℕ
output_of t frames = (head_for t ++ coded t.coding frames) ++ pad t.kind t.named (length (coded t.coding frames))

-- whether the end of the sound was reached: the end was given, and not because some effect needs no more input
abbrev pub met_end : Bool → Bool → Bool
met_end ended enough = ended && not enough

module _ {S R : Type 0} (acts : Acts S R) where
  -- the clips that each stage counted in the frames that it gave
  abbrev pub clips_now : List S → List ℕ
  clips_now stages = clip_counts_of (map (λ s. (acts.counts s).clips) stages)

  -- The counts of a run over these frames: the frames given are the first of those that the flow gives for them, and
  -- each effect gave, and is still to give, what it gives for them. The calls of the flow, from start on, came to this.
  pub record Reports (start at : Parts S) (coding : Coding) (frames : List Samples) (r : Report) : Type 0 where
    pub gave : rest_of acts start frames ≡ take r.frames_out (rest_of acts start frames) ++ rest_of acts at []
    pub part : r.frames_out ≤ length (rest_of acts start frames)
    pub wholes : wholes_of acts at [] ≡ wholes_of acts start frames
    pub out_clips : r.out_clips ≡ coded_clips coding (take r.frames_out (rest_of acts start frames))
    pub reached : Reached acts start frames (take r.frames_out (rest_of acts start frames)) at

  -- A read had failed before: all whole frames of what was delivered had been taken, and all that was due had been given.
  pub record ReadBefore {D : Type 0} (delivered : D → ℕ) (old : Held D) (new : D) (start at : Parts S) (sound : Reading) (n given : ℕ) : Type 0 where
    pub due : given ≡ due_of (kinds acts start.stages) n
    pub hungry : IsHungry acts at
    pub not_enough : enough_for (kinds acts start.stages) n ≡ false
    pub read_failed : ReadAllDelivered delivered old new sound n

  -- A run to the end: all that the flow gives was written.
  pub record Completed (start at : Parts S) (target : Target) (sound : Reading) (bytes : List ℕ) (frames : List Samples) (first now : Option (List ℕ)) (r : Report) : Type 0 where
    -- the frames read are all in the bytes
    pub whole : r.frames_in * size_of sound ≤ length (within_sound sound.left bytes)
    pub wrote : WroteAll first now r.bytes_out (output_of target (rest_of acts start frames))
    pub frames_out : r.frames_out ≡ length (rest_of acts start frames)
    pub out_clips : r.out_clips ≡ coded_clips target.coding (rest_of acts start frames)
    pub clips : r.clips ≡ clip_counts_of (map (λ (w : Whole). w.clips) (wholes_of acts start frames))
    pub moves : r.moves ≡ r.frames_in + total (λ (w : Whole). w.given) (wholes_of acts start frames)
    -- all frames were read, or those read were enough for some effect, and no more of them would change anything
    pub ended : ((enough_for (kinds acts start.stages) r.frames_in ≡ false) × RanToEnd sound bytes r.frames_in r.missing r.stray)
        ⊎ ((enough_for (kinds acts start.stages) r.frames_in ≡ true) × ((r.missing ≡ 0) × (r.stray ≡ 0)))
    pub determined : enough_for (kinds acts start.stages) r.frames_in ≡ true → (z : List Samples) → rest_of acts start (frames ++ z) ≡ rest_of acts start frames

  -- A run that stopped: after a failed read, and where the sound is too long, the frames then due were written, whatever
  -- follows; after a failed write the writer has a prefix.
  pub record StoppedAt (start at : Parts S) (target : Target) (sound : Reading) (bytes : List ℕ) (frames : List Samples) (first now : Option (List ℕ)) (f : RunFault) : Type 0 where
    -- the frames read are all in the bytes
    pub whole : (report_at f).frames_in * size_of sound ≤ length (within_sound sound.left bytes)
    pub reports : Reports start at target.coding frames (report_at f)
    -- each effect had given exactly what was due, with its clips
    pub hungry : cause_of f ≢ Causes.WriteFailed → IsHungry acts at
    pub moves : cause_of f ≢ Causes.WriteFailed → (report_at f).moves ≡ (report_at f).frames_in + sum (dues (kinds acts start.stages) (report_at f).frames_in)
    pub clips : cause_of f ≢ Causes.WriteFailed → AllNew acts start.stages → (report_at f).clips ≡ clip_counts_of (clips_due acts.meaning (dues (kinds acts start.stages) (report_at f).frames_in) (recipes acts start.stages) frames)
    pub due : cause_of f ≢ Causes.WriteFailed → ((report_at f).frames_out ≡ due_of (kinds acts start.stages) (report_at f).frames_in)
        × WroteAll first now (report_at f).bytes_out (head_for target ++ coded target.coding (take (report_at f).frames_out (rest_of acts start frames)))
    pub whatever : cause_of f ≢ Causes.WriteFailed → (z : List Samples) → take (report_at f).frames_out (rest_of acts start (frames ++ z)) ≡ take (report_at f).frames_out (rest_of acts start frames)
    pub front : cause_of f ≡ Causes.WriteFailed →
        WroteFront first now (report_at f).bytes_out (head_for target ++ coded target.coding (take (report_at f).frames_out (rest_of acts start frames)))
        ⊎ (IsDone acts at × WroteFront first now (report_at f).bytes_out (output_of target (rest_of acts start frames)))
    -- where the end was reached, the missing and stray bytes are those of the container's definition; otherwise they are not
    -- counted
    pub ends : cause_of f ≡ Causes.WriteFailed → MatchBool (met_end at.ended (enough_for (kinds acts start.stages) (report_at f).frames_in))
        (RanToEnd sound bytes (report_at f).frames_in (report_at f).missing (report_at f).stray)
        (((report_at f).missing ≡ 0) × ((report_at f).stray ≡ 0))
    pub no_ends : cause_of f ≢ Causes.WriteFailed → ((report_at f).missing ≡ 0) × ((report_at f).stray ≡ 0)
    pub not_enough : cause_of f ≢ Causes.WriteFailed → enough_for (kinds acts start.stages) (report_at f).frames_in ≡ false
    pub too_long : cause_of f ≡ Causes.TooLong → ((report_at f).frames_in ≡ MAX_FRAMES) × ((MAX_FRAMES + 1) * size_of sound ≤ length (within_sound sound.left bytes))
