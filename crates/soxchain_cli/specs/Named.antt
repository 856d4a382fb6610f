-- The result for a named OUT (this project's profile).
use Rattle.std.specs.Prelude.{◌≡◌, ◌≤◌, ◌+◌, ◌⊎◌, ℕ, true, List, Some, IfSome}
use Rattle.std.specs.Io.KnownBytes.{Appends}
use Rattle.fx_chain_run.specs.declared.report.Report.{Report}
use Rattle.fx_frame_base.specs.Io.{ByteReader, ByteWriter, Rewinds, saturated}
use Rattle.fx_plan.specs.Planning.{planning}
use Rattle.fx_sound.specs.Source.{Held}
use Rattle.soxchain.specs.MessageWriter.{ReportsFront}
use Rattle.soxchain.specs.FileMessages.{rewrite_message}
use Rattle.soxchain.specs.Finishing.{Finished, ReadyParts}
use Rattle.soxchain.specs.declared.message_writer.MessageWriter.{MessageWriter}
use Rattle.soxchain.specs.Saying.{Says}
use Rattle.soxchain_cli.specs.Heads.{true_head}

-- How a created file is specified: what it took, and how it goes back.
pub record FileWriter (F : Type 0) : Type 1 where
  pub writes : ByteWriter F
  pub rewinds : Rewinds F

-- such a writer
abbrev pub file_writer : {F : Type 0} → ByteWriter F → Rewinds F → FileWriter F
file_writer writes rewinds = record { writes = writes; rewinds = rewinds }

-- one call took a file back to its first byte
pub record IsBack {F : Type 0} (d : FileWriter F) (old new : F) : Type 0 where
  pub back : d.rewinds.back old new
  pub start : IfSome (d.rewinds.place old) (λ _. d.rewinds.place new ≡ Some 0)

-- Bytes were written over the beginning of a file: it went back to its first byte at once, took them all there, and was flushed. No
-- call of it failed.
pub record WritesOver {F : Type 0} (d : FileWriter F) (old new : F) (bytes : List ℕ) : Type 0 where
  pub start : F
  pub back : IsBack d old start
  pub took : Appends (d.writes.taken start) (d.writes.taken new) bytes
  pub flushed : d.writes.flushed new ≡ true
  pub unfailed : d.writes.failures new ≡ d.writes.failures old

-- This failed: the file could not go back, and nothing came after that; or it went back at once, and a call after that failed,
-- so it took a prefix of the bytes.
pub data FailsOver {F : Type 0} (d : FileWriter F) (old new : F) (bytes : List ℕ) : Type 0 where
  Stuck :
      d.rewinds.stuck old new
      → d.writes.failures new ≡ saturated (d.writes.failures old + 1)
      → FailsOver d old new bytes
  Cut : (start : F)
      → IsBack d old start
      → d.writes.failures start ≡ d.writes.failures old
      → ReportsFront d.writes start new bytes
      → FailsOver d old new bytes

-- A run into a new file: after a fault nothing else is written to the file. Else the true head is written over its beginning;
-- or this fails, and is reported.
pub record Files {R F M : Type 0} (reads : ByteReader R) (d : FileWriter F) (writes : ByteWriter M)
    (ready : ReadyParts) (source new_source : Held R) (file new_file : F) (name : List ℕ) (messages new_messages : MessageWriter M) (status : ℕ) : Type 0 where
  pub left : F
  pub delivered_so_far : MessageWriter M
  pub run_status : ℕ
  pub report : Report
  pub ran : Finished reads d.writes ready source new_source file left (Says writes messages delivered_so_far) run_status report
  pub stopped : 1 ≤ run_status → (status ≡ run_status) × (new_file ≡ left) × (new_messages ≡ delivered_so_far)
  pub headed : run_status ≡ 0 →
      ((status ≡ 0) × WritesOver d left new_file (true_head (planning ready.prepared.plan) report) × (new_messages ≡ delivered_so_far))
      ⊎ ((status ≡ 2) × FailsOver d left new_file (true_head (planning ready.prepared.plan) report) × Says writes delivered_so_far new_messages (rewrite_message name))
