-- A conversion in memory (this project's profile; packaging/soxchain.h).
use Rattle.std.specs.Prelude.{◌≡◌, ◌≢◌, ◌⊎◌, ◌+◌, ◌*◌, ◌≤◌, ℕ, ℤ, pos, List, [], drop, length, Some, Result, Err, IfOk}
use Rattle.fx_chain_run.specs.declared.report.Report.{Report}
use Rattle.fx_chain_run.specs.declared.report.RunFault.{RunFault}
use Rattle.fx_chain_run.specs.declared.pump.Cause.TheVariants as Causes
use Rattle.fx_chain_run.specs.Report.{cause_of, no_report, report_at}
use Rattle.fx_chain.specs.Theorem.{Ran}
use Rattle.fx_plan.specs.declared.line.LineFault.{LineFault}
use Rattle.fx_plan.specs.Line.{Said, line_of_words}
use Rattle.fx_plan.specs.declared.fault.PlanFault.{PlanFault}
use Rattle.fx_plan.specs.CommandLines.{LineReads}
use Rattle.fx_plan.specs.Planning.{Planning}
use Rattle.fx_sound.specs.declared.head.HeadFault.{HeadFault}
use Rattle.fx_sound.specs.FrameCoding.{frame_size}
use Rattle.fx_sound.specs.Head.{head_of}
use Rattle.fx_sound.specs.Sound.{within_sound}
use Rattle.soxchain.specs.declared.preparing.Refusal.{Refusal}
use Rattle.soxchain.specs.declared.preparing.Refusal.TheVariants as Refusals
use Rattle.soxchain.specs.Convert.{Running, Unchained, Unplanned, WholeConversion}
use Rattle.soxchain.specs.Program.{Concludes}
use Rattle.soxchain.specs.Stops.{Stop, Refused, Run}
use Rattle.soxchain_c.specs.declared.conversion.SoxchainReport.{SoxchainReport}
use Rattle.soxchain_c.specs.declared.status.Status.{Status}
use Rattle.soxchain_c.specs.Asked.{UnreadWords}
use Rattle.soxchain_c.specs.Messages.{ReportedBytes}
use Rattle.soxchain_c.specs.Status.{code}
use Rattle.soxchain_c.specs.Texts.{AreEnds, AreTexts, cut}

-- a report to C, with the bytes of the output and of the messages
abbrev pub reported_report : Report → ℕ → ℕ → SoxchainReport
reported_report r output messages = record {
  output_length = output;
  messages_length = messages;
  frames_in = r.frames_in;
  frames_out = r.frames_out;
  bytes_out = r.bytes_out;
  moves = r.moves;
  clips = r.clips;
  out_clips = r.out_clips;
  missing = r.missing;
  stray = r.stray;
}

-- The frames that a report names, and its stray bytes, follow the head.
abbrev pub AreThere : Planning → List ℕ → Report → Type 0
AreThere p bytes r =
    r.frames_in * frame_size p.head.coding p.head.channels + r.stray ≤ length (within_sound p.head.announced bytes)

-- The bytes were a whole sound, or as much of it was read as some effect needs.
pub record WholeBytes (line : Said) (files : List (List ℕ)) (input output : List ℕ) (r : Report) : Type 0 where
  pub whole : WholeConversion line files input (Some []) (Some output) r
  pub there : AreThere whole.run.plan (drop whole.run.offset input) r

-- The run over the bytes stopped, since memory for the output was refused, or the sound was too long: no read of bytes in
-- memory fails.
pub record StoppedBytes (line : Said) (files : List (List ℕ)) (input output : List ℕ) (f : RunFault) : Type 0 where
  pub read : cause_of f ≢ Causes.ReadFailed
  pub run : Running line files input (report_at f)
  pub ran : Ran run.plan (drop run.offset input) (Some []) (Some output) (Err f)
  pub there : AreThere run.plan (drop run.offset input) (report_at f)

-- A sound in memory whose command line was accepted: as `Converted` states for a reader that delivers these bytes, and of a
-- writer that took none and then these.
pub record ConvertedBytes (line : Said) (files : List (List ℕ)) (input output : List ℕ) (outcome : Result Report Stop) : Type 0 where
  pub whole : IfOk outcome (λ r. WholeBytes line files input output r)
  pub clean : (r : Refusal) → outcome ≡ Err (Refused r) → output ≡ []
  pub refused : (f : HeadFault) → outcome ≡ Err (Refused (Refusals.Head f)) → head_of line.input_kind input ≡ Err f
  pub unplanned : (f : PlanFault) → outcome ≡ Err (Refused (Refusals.Plan f)) → Unplanned line files input f
  pub unchained : outcome ≡ Err (Refused Refusals.Chain) → Unchained line files input
  pub stopped : (f : RunFault) → outcome ≡ Err (Run f) → StoppedBytes line files input output f

-- What these words make of a sound in memory.
pub record Conversion (words files : List (List ℕ)) (input output messages : List ℕ) (status : ℤ) (report : Report) : Type 0 where
  pub number : ℕ
  pub status_is : status ≡ pos number
  pub found : Result Said LineFault
  pub reads : LineReads (line_of_words words) found
  pub concludes : Concludes (λ line. ConvertedBytes line files input output) (output ≡ []) (ReportedBytes messages) number report found

-- The words and files could not be read, so nothing was converted.
pub record Unconverted (words word_ends files file_ends output messages : List ℕ) (number : ℤ) (report : Report) : Type 0 where
  pub status : Status
  pub number_is : number ≡ code status
  pub unread : UnreadWords words word_ends files file_ends (ReportedBytes messages) (messages ≡ []) status
  pub output_is : output ≡ []
  pub report_is : report ≡ no_report

-- The words and files were read, and these are what they make of a sound in memory.
pub record Read (words word_ends files file_ends input output messages : List ℕ) (number : ℤ) (report : Report) : Type 0 where
  pub words_end : AreEnds words 0 word_ends
  pub files_end : AreEnds files 0 file_ends
  pub are_texts : AreTexts (cut words 0 word_ends)
  pub is : Conversion (cut words 0 word_ends) (cut files 0 file_ends) input output messages number report

-- What words and files that lie in bytes, each up to its end, make of a sound in memory.
abbrev pub ConversionOf : List ℕ → List ℕ → List ℕ → List ℕ → List ℕ → List ℕ → List ℕ → ℤ → Report → Type 0
ConversionOf words word_ends files file_ends input output messages number report =
    Read words word_ends files file_ends input output messages number report
    ⊎ Unconverted words word_ends files file_ends output messages number report
