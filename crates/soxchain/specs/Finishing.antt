-- The result of a run that was ready (this project's profile).
use Rattle.std.specs.Prelude.{◌≡◌, ◌≢◌, ◌+◌, ◌≤◌, ℕ, true, List, Result, Ok, Err, IfErr, OnOk, MatchResult, ◌++◌}
use Rattle.fx_chain_run.specs.declared.pump.Cause.TheVariants as Causes
use Rattle.fx_chain_run.specs.declared.report.Report.{Report}
use Rattle.fx_chain_run.specs.declared.report.RunFault.{RunFault}
use Rattle.fx_chain_run.specs.Report.{HasCause, cause_of, report_at, report_in, start_of}
use Rattle.fx_chain_run.specs.Run.{WantsMore}
use Rattle.fx_sound.specs.Container.{ReadAllDelivered}
use Rattle.fx_chain.specs.Theorem.{Ran, ReadFirst, kinds_of}
use Rattle.fx_frame_base.specs.Io.{ByteReader, ByteWriter, saturated}
use Rattle.fx_plan.specs.Line.{Said}
use Rattle.fx_plan_effects.specs.Bounds.{work_of}
use Rattle.fx_plan.specs.Planning.{planning}
use Rattle.fx_sound.specs.Known.{IfKnown}
use Rattle.fx_sound.specs.Source.{Held, to_come}
use Rattle.soxchain.specs.declared.prepared.Prepared.{Prepared}
use Rattle.soxchain.specs.Convert.{SourceStands}
use Rattle.soxchain.specs.Messages.{run_label, run_message, warnings}

-- what is ready for a run: the content of the command line, and the plan and the chain that it asks for
pub record ReadyParts : Type 0 where
  pub line : Said
  pub prepared : Prepared

-- a line, and what is prepared for it
abbrev pub ready_for : Said → Prepared → ReadyParts
ready_for line prepared = record { line = line; prepared = prepared }

-- 0 without a fault, and else 2
abbrev pub run_status : Result Report RunFault → ℕ
run_status (Ok r) = 0
run_status (Err f) = 2

-- the messages on a run
abbrev pub run_messages : Said → Result Report RunFault → List ℕ
run_messages line (Ok r) = warnings line r
run_messages line (Err f) = warnings line (report_at f) ++ run_message (run_label f) (report_at f).frames_in

-- A run of what was ready: how it went, and status, report and messages that follow from it.
pub record Finished {R W : Type 0} (reads : ByteReader R) (writes : ByteWriter W)
    (ready : ReadyParts) (source new_source : Held R) (writer new_writer : W) (IsReported : List ℕ → Type 0) (status : ℕ) (report : Report) : Type 0 where
  pub outcome : Result Report RunFault
  -- what was written and is reported, as functions of the plan and the bytes
  pub ran : IfKnown (to_come reads.rest source) (λ bytes. Ran (planning ready.prepared.plan) bytes (writes.taken writer) (writes.taken new_writer) outcome)
  -- the source is after the frames that were read and the stray bytes, or keeps the bytes of an incomplete frame
  pub stands : IfKnown (to_come reads.rest source) (λ bytes. SourceStands reads source new_source ready.prepared.plan.head 0 bytes outcome
      ((reads.failures new_source.reader ≡ saturated (reads.failures source.reader + 1)) × ReadFirst reads.delivered source new_source.reader (planning ready.prepared.plan) (report_in outcome).frames_in (report_in outcome).frames_out))
  pub all_flushed : OnOk outcome (writes.flushed new_writer ≡ true)
  pub due_flushed : IfErr outcome (λ f. cause_of f ≢ Causes.WriteFailed → writes.flushed new_writer ≡ true)
  -- after a failed read all whole frames that were delivered had come
  pub read_failed : IfErr outcome (λ f. cause_of f ≡ Causes.ReadFailed → ReadAllDelivered reads.delivered source new_source.reader (start_of ready.prepared.plan.head) (report_at f).frames_in)
  -- no frame was read once some effect needs no more input, and no more were handed over than the plan's work
  pub wants : WantsMore (kinds_of (planning ready.prepared.plan)) (report_in outcome).frames_in
  pub work : (report_in outcome).moves ≤ work_of (planning ready.prepared.plan).acts (report_in outcome).frames_in
  pub causes : MatchResult outcome
      (λ _. (reads.failures new_source.reader ≡ reads.failures source.reader) × (writes.failures new_writer ≡ writes.failures writer))
      (λ f. HasCause (cause_of f) (ReadFirst reads.delivered source new_source.reader (planning ready.prepared.plan) (report_at f).frames_in (report_at f).frames_out) (reads.failures source.reader) (reads.failures new_source.reader) (writes.failures writer) (writes.failures new_writer))
  pub status_is : status ≡ run_status outcome
  pub report_is : report ≡ report_in outcome
  pub delivered_is : IsReported (run_messages ready.line outcome)
