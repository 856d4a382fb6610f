-- The conversion of a sound whose command line was accepted, on the whole list of bytes (this project's profile).
use Rattle.std.specs.Prelude.{◌≡◌, ◌≢◌, ◌⊎◌, ℕ, ◌+◌, ◌-◌, ◌*◌, ◌/◌, ◌^◌, ◌<◌, ◌≤◌, true, false, List, drop, length, Option, Some, Result, Ok, Err, IfOk, []}
use Rattle.fx_chain_run.specs.declared.pump.Cause.TheVariants as Causes
use Rattle.fx_chain_run.specs.declared.report.Report.{Report}
use Rattle.fx_chain_run.specs.declared.report.RunFault.{RunFault}
use Rattle.fx_chain_run.specs.Report.{HasCause, Stands, after_reported, cause_of, report_at, report_in, start_of}
use Rattle.fx_chain_run.specs.Run.{WantsMore}
use Rattle.fx_chain.specs.Theorem.{Ran, kinds_of}
use Rattle.fx_chain_flow.specs.Composed.{due_of, enough_for}
use Rattle.fx_frame_base.specs.Io.{ByteReader, ByteWriter, saturated}
use Rattle.fx_plan.specs.Line.{Said}
use Rattle.fx_plan.specs.declared.fault.PlanFault.{PlanFault}
use Rattle.fx_plan_effects.specs.Bounds.{work_of}
use Rattle.fx_plan.specs.CommandLines.{effects_in, planning_in}
use Rattle.fx_plan.specs.Plans.{head_layout, RefusesPlan, all_faults}
use Rattle.fx_plan.specs.Planning.{Planning}
use Rattle.fx_sound.specs.declared.head.Head.{Head}
use Rattle.fx_sound.specs.declared.head.HeadFault.{HeadFault}
use Rattle.fx_sound.specs.declared.head.HeadFault.TheVariants as HeadFaults
use Rattle.fx_sound.specs.declared.head.Kind.{Kind}
use Rattle.fx_sound.specs.Head.{head_of, spelling}
use Rattle.fx_sound.specs.Known.{IfKnown}
use Rattle.fx_sound.specs.Reads.{CutOff}
use Rattle.fx_sound.specs.Sound.{at_most_announced, size_of}
use Rattle.fx_sound.specs.Source.{Held, HoldsWhatCame, to_come}
use Rattle.soxchain.specs.declared.preparing.Refusal.{Refusal}
use Rattle.soxchain.specs.declared.preparing.Refusal.TheVariants as Refusals
use Rattle.soxchain.specs.Preparing.{RefusalHasCause}
use Rattle.soxchain.specs.Stops.{Stop, Refused, Run}

-- the source that holds nothing of its reader yet
abbrev pub unread_source : {R : Type 0} → R → Held R
unread_source reader = record { bytes = []; reader = reader; short = false }

-- the bytes begin with this head, which puts the start of the sound at that offset
pub record Begins (expected : Option Kind) (bytes : List ℕ) (h : Head) (offset : ℕ) : Type 0 where
  pub spelt : head_of expected bytes ≡ Ok (spelling h offset)
  pub there : offset ≤ length bytes
  pub near : offset ≤ 0x1000000

-- A run over the bytes: the head, the plan of the line after it, and how far it went.
pub record Running (line : Said) (files : List (List ℕ)) (bytes : List ℕ) (r : Report) : Type 0 where
  pub plan : Planning
  pub offset : ℕ
  pub begins : Begins line.input_kind bytes plan.head offset
  pub no_faults : all_faults (head_layout plan.head) files (effects_in line) ≡ []
  pub planned : plan ≡ planning_in plan.head line files
  -- no frame was read once some effect needs no more input, and no more were handed over than the plan's work
  pub wants : WantsMore (kinds_of plan) r.frames_in
  pub work : r.moves ≤ work_of plan.acts r.frames_in

-- The bytes were a whole sound, or as much of it was read as some effect needs: what was written and is reported, as functions
-- of the plan and the bytes.
pub record WholeConversion (line : Said) (files : List (List ℕ)) (bytes : List ℕ) (first now : Option (List ℕ)) (r : Report) : Type 0 where
  pub run : Running line files bytes r
  pub ran : Ran run.plan (drop run.offset bytes) first now (Ok r)

-- the reader delivered the head and a part of the sound, fewer bytes than announced: n are all its whole frames
abbrev pub TookAllDelivered : {R : Type 0} → ByteReader R → R → R → Head → ℕ → ℕ → Type 0
TookAllDelivered reads reader new h offset n = reads.delivered new < 2 ^ 64 - 1 →
    (reads.delivered reader + offset ≤ reads.delivered new)
    × (n ≡ at_most_announced h.announced (reads.delivered new - reads.delivered reader - offset) / size_of (start_of h))
    × ((left : ℕ) → h.announced ≡ Some left → reads.delivered new - reads.delivered reader - offset < left)

-- one read had failed before: all whole frames had come, no effect had enough of them, and all that was due had been given
pub record ReportedFirst {R : Type 0} (reads : ByteReader R) (reader new : R) (plan : Planning) (offset n given : ℕ) : Type 0 where
  pub failed : reads.failures new ≡ saturated (reads.failures reader + 1)
  pub due : given ≡ due_of (kinds_of plan) n
  pub not_enough : enough_for (kinds_of plan) n ≡ false
  pub took_all : TookAllDelivered reads reader new plan.head offset n

-- The run over the bytes stopped: what was written and is reported. After a failed read, and where the sound is too long, the
-- frames then due were written; after a failed write the writer has a prefix.
pub record Stopped {R : Type 0} (reads : ByteReader R) (line : Said) (files : List (List ℕ)) (bytes : List ℕ) (reader new : R) (first now : Option (List ℕ)) (f : RunFault) : Type 0 where
  pub run : Running line files bytes (report_at f)
  pub ran : Ran run.plan (drop run.offset bytes) first now (Err f)
  -- after a failed read all whole frames had come
  pub read_failed : cause_of f ≡ Causes.ReadFailed → TookAllDelivered reads reader new run.plan.head run.offset (report_at f).frames_in
  -- where the writer failed, no read had failed, or one had failed before
  pub read_before : cause_of f ≡ Causes.WriteFailed → (reads.failures new ≡ reads.failures reader)
      ⊎ ReportedFirst reads reader new run.plan run.offset (report_at f).frames_in (report_at f).frames_out

-- The position of a source after a run over the sound that begins at that place of the bytes: after the reported frames and the
-- stray bytes; or, after a failed read, after these frames, and the source keeps the bytes of an incomplete frame. After a
-- failed write it is one of both, the second only where a read had failed before.
abbrev pub SourceStands : {R : Type 0} → ByteReader R → Held R → Held R → Head → ℕ → List ℕ → Result Report RunFault → Type 0 → Type 0
SourceStands reads source new_source h offset bytes ended Before = Stands ended
    (to_come reads.rest new_source ≡ Some (after_reported (start_of h) (report_in ended) (drop offset bytes)))
    (HoldsWhatCame reads.delivered source new_source bytes (offset + (report_in ended).frames_in * size_of (start_of h)))
    Before

-- the reader after a run over the bytes, with the bytes that the source holds, is at that position
pub record ReaderStands {R : Type 0} (reads : ByteReader R) (line : Said) (files : List (List ℕ)) (bytes : List ℕ) (reader new : R) (ended : Result Report RunFault) : Type 0 where
  pub run : Running line files bytes (report_in ended)
  pub left : Held R
  pub is_left : left.reader ≡ new
  pub stands : SourceStands reads (unread_source reader) left run.plan.head run.offset bytes ended
      (ReportedFirst reads reader new run.plan run.offset (report_in ended).frames_in (report_in ended).frames_out)

-- what holds for the outcome of the run, where there was one
abbrev pub IfRun : Result Report Stop → (Result Report RunFault → Type 0) → Type 0
IfRun (Ok r) P = P (Ok r)
IfRun (Err (Refused r)) P = Unit {0}
IfRun (Err (Run f)) P = P (Err f)

-- a stop is returned only where its cause was counted
abbrev pub StopHasCause : Stop → ℕ → ℕ → ℕ → ℕ → Type 0
StopHasCause (Refused r) reads new_reads writes new_writes = RefusalHasCause r reads new_reads
StopHasCause (Run f) reads new_reads writes new_writes = HasCause (cause_of f) (Unit {0}) reads new_reads writes new_writes

-- the bytes begin with a head after which the plan of the line is refused, by its first fault or for lack of memory
pub record Unplanned (line : Said) (files : List (List ℕ)) (bytes : List ℕ) (f : PlanFault) : Type 0 where
  pub head : Head
  pub offset : ℕ
  pub begins : Begins line.input_kind bytes head offset
  pub refuses : RefusesPlan f (all_faults (head_layout head) files (effects_in line))

-- the bytes begin with a head after which the plan of the line has no fault
pub record Unchained (line : Said) (files : List (List ℕ)) (bytes : List ℕ) : Type 0 where
  pub head : Head
  pub offset : ℕ
  pub begins : Begins line.input_kind bytes head offset
  pub no_faults : all_faults (head_layout head) files (effects_in line) ≡ []

-- a conversion, from one state of reader and writer to the next
pub record Converted {R W : Type 0} (reads : ByteReader R) (writes : ByteWriter W)
    (line : Said) (files : List (List ℕ)) (reader new_reader : R) (writer new_writer : W) (outcome : Result Report Stop) : Type 0 where
  pub whole : IfOk outcome (λ r. IfKnown (reads.rest reader) (λ bytes. WholeConversion line files bytes (writes.taken writer) (writes.taken new_writer) r))
  pub all_flushed : IfOk outcome (λ _. writes.flushed new_writer ≡ true)
  pub due_flushed : (f : RunFault) → outcome ≡ Err (Run f) → cause_of f ≢ Causes.WriteFailed → writes.flushed new_writer ≡ true
  pub unfailed : IfOk outcome (λ _. (reads.failures new_reader ≡ reads.failures reader) × (writes.failures new_writer ≡ writes.failures writer))
  -- a refusal before the run: nothing was written
  pub clean : (r : Refusal) → outcome ≡ Err (Refused r) → new_writer ≡ writer
  pub refused : (f : HeadFault) → outcome ≡ Err (Refused (Refusals.Head f)) → f ≢ HeadFaults.ReadFailed → IfKnown (reads.rest reader) (λ bytes. head_of line.input_kind bytes ≡ Err f)
  pub cut : outcome ≡ Err (Refused (Refusals.Head HeadFaults.ReadFailed)) → (new : Held R) × CutOff reads.rest reads.delivered (head_of line.input_kind) (unread_source reader) new × (new.reader ≡ new_reader)
  pub unplanned : (f : PlanFault) → outcome ≡ Err (Refused (Refusals.Plan f)) → IfKnown (reads.rest reader) (λ bytes. Unplanned line files bytes f)
  -- no memory for the chain: the head and the plan had no fault
  pub unchained : outcome ≡ Err (Refused Refusals.Chain) → IfKnown (reads.rest reader) (λ bytes. Unchained line files bytes)
  pub stopped : (f : RunFault) → outcome ≡ Err (Run f) → IfKnown (reads.rest reader) (λ bytes. Stopped reads line files bytes reader new_reader (writes.taken writer) (writes.taken new_writer) f)
  pub stands : IfRun outcome (λ ended. IfKnown (reads.rest reader) (λ bytes. ReaderStands reads line files bytes reader new_reader ended))
  pub causes : (s : Stop) → outcome ≡ Err s → StopHasCause s (reads.failures reader) (reads.failures new_reader) (writes.failures writer) (writes.failures new_writer)
