-- What the program does, on any host (this project's profile).
use Rattle.std.specs.Prelude.{◌≡◌, ◌≢◌, ℕ, true, List, Option, Some, None, Ok, Err, codes}
use Rattle.std.specs.Io.KnownBytes.{Appends}
use Rattle.std.specs.declared.io.ErrorKind.{ErrorKind}
use Rattle.std.specs.declared.io.ErrorKind.TheVariants as ErrorKinds
use Rattle.fx_chain_run.specs.declared.report.Report.{Report}
use Rattle.fx_frame_base.specs.Io.{ByteReader, ByteWriter}
use Rattle.fx_plan.specs.declared.line.LineFault.{LineFault}
use Rattle.fx_plan.specs.declared.line.LineFault.TheVariants as LineFaults
use Rattle.fx_plan.specs.Line.{Said, line_of_words}
use Rattle.fx_plan.specs.CommandLines.{LineReads, coefficient_files, effects_in, file_name}
use Rattle.fx_sound.specs.Source.{Held}
use Rattle.soxchain.specs.declared.prepared.Prepared.{Prepared}
use Rattle.soxchain.specs.FileMessages.{open_message}
use Rattle.soxchain.specs.Convert.{unread_source}
use Rattle.soxchain.specs.Finishing.{Finished, ready_for}
use Rattle.soxchain.specs.MessageWriter.{ReportsFront}
use Rattle.soxchain.specs.Preparing.{IsPrepared}
use Rattle.soxchain.specs.Messages.{line_label, line_message}
use Rattle.soxchain.specs.Program.{status_of_line}
use Rattle.soxchain.specs.Readying.{Unready}
use Rattle.soxchain.specs.declared.message_writer.MessageWriter.{MessageWriter}
use Rattle.soxchain.specs.Saying.{Says}
use Rattle.soxchain_cli.specs.Named.{FileWriter, Files}
use Rattle.soxchain_cli.specs.SameFile.{IsMade, IsUnmade, FileCalls}
use Rattle.soxchain_common.specs.Consoles.{IsNewReader, IsNewWriter, Machine, Opened}
use Rattle.soxchain_common.specs.Files.{AreFronts, IsMemoryRefused, IsUnread}
use Rattle.soxchain_common.specs.SameFile.{Looks}

-- How streams and files are specified: standard input and a file that is read, as readers; standard output and a file that was
-- created, as writers. Each counts the calls of it that failed.
pub record Devices (I R O F : Type 0) : Type 1 where
  pub input : ByteReader I
  pub file : ByteReader R
  pub output : ByteWriter O
  pub created : FileWriter F

-- such devices, from how each is specified
abbrev pub devices : {I R O F : Type 0} → ByteReader I → ByteReader R → ByteWriter O → FileWriter F → Devices I R O F
devices input file output created = record { input = input; file = file; output = output; created = created }

-- The program makes one request of the host after another; `m`, `looks`, `s` and `o` state the request and the answer between
-- one of its states and the next. So the states name all requests, in order: where the last one is that of a call, nothing came
-- after it.
module _ {H I R O F M : Type 0} (d : Devices I R O F) (m : H → H → Machine I O) (looks : Looks H) (s : FileCalls H F) (writes : ByteWriter M) where
  -- The result for a sound: nothing was ready for it; or OUT is IN, or could not be made; or it ran to standard output, or into
  -- the new file of OUT's own name.
  pub data Sounds {X : Type 0} (reads : ByteReader X) (line : Said) (files : List (List ℕ)) (reader : X) (host new_host : H) (old new : MessageWriter M) (status : ℕ) : Type 0 where
    Refused : (source : Held X)
        → new_host ≡ host
        → Unready reads line files (unread_source reader) source (Says writes old new) status
        → Sounds reads line files reader host new_host old new status
    Unmade : (source : Held X) (prepared : Prepared) (name : List ℕ)
        → IsPrepared reads line files (unread_source reader) source prepared
        → file_name line.output ≡ Some name
        → IsUnmade looks s host new_host (file_name line.input) name
        → status ≡ 2
        → Says writes old new (open_message name)
        → Sounds reads line files reader host new_host old new status
    Streamed : (next : H) (source left : Held X) (prepared : Prepared) (output ended : O) (report : Report)
        → IsPrepared reads line files (unread_source reader) source prepared
        → file_name line.output ≡ None
        → (m host next).is_output output
        → IsNewWriter d.output output
        → Finished reads d.output (ready_for line prepared) source left output ended (Says writes old new) status report
        → (m next new_host).left ended
        → Sounds reads line files reader host new_host old new status
    Filed : (next : H) (source left : Held X) (prepared : Prepared) (name : List ℕ) (file ended : F)
        → IsPrepared reads line files (unread_source reader) source prepared
        → file_name line.output ≡ Some name
        → IsMade looks s host next (file_name line.input) name file
        → IsNewWriter d.created.writes file
        → Files reads d.created writes (ready_for line prepared) source left file ended name old new status
        → s.closed next new_host ended
        → Sounds reads line files reader host new_host old new status

  -- The result for a line whose coefficient files are there: IN could not be opened; or its sound was processed, from standard
  -- input or from the file of IN's own name.
  pub data Lines (o : Opened H R) (line : Said) (files : List (List ℕ)) (host new_host : H) (old new : MessageWriter M) (status : ℕ) : Type 0 where
    Unopened : (name : List ℕ)
        → file_name line.input ≡ Some name
        → o.unopened host new_host name
        → status ≡ 2
        → Says writes old new (open_message name)
        → Lines o line files host new_host old new status
    Standard : (next : H) (input : I)
        → file_name line.input ≡ None
        → (m host next).is_input input
        → IsNewReader d.input input
        → Sounds d.input line files input next new_host old new status
        → Lines o line files host new_host old new status
    Named : (next : H) (name : List ℕ) (reader : R)
        → file_name line.input ≡ Some name
        → o.opened host next name reader
        → IsNewReader d.file reader
        → Sounds d.file line files reader next new_host old new status
        → Lines o line files host new_host old new status

  -- The result for a line: a coefficient file that it names could not be read; or memory for their names was refused, or for
  -- their bytes; or all of them were read.
  pub data Works (o : Opened H R) (line : Said) (host new_host : H) (old new : MessageWriter M) (status : ℕ) : Type 0 where
    Unread : (name : List ℕ)
        → IsUnread o d.file host new_host (coefficient_files (effects_in line)) name
        → status ≡ 2
        → Says writes old new (open_message name)
        → Works o line host new_host old new status
    MemoryRefused :
        IsMemoryRefused o d.file host new_host (coefficient_files (effects_in line))
        → status ≡ status_of_line LineFaults.Memory
        → Says writes old new (line_message (line_label LineFaults.Memory))
        → Works o line host new_host old new status
    Read : (next : H) (files : List (List ℕ))
        → AreFronts o d.file host next (coefficient_files (effects_in line)) files
        → Lines o line files next new_host old new status
        → Works o line host new_host old new status

  -- A text was shown on standard output, and flushed, and no call of it failed; or one did, and a prefix of the text was shown.
  -- Nothing else was written to it.
  pub data IsShown (text : List ℕ) (host new_host : H) (old new : MessageWriter M) (status : ℕ) : Type 0 where
    Whole : (next : H) (output ended : O)
        → (m host next).is_output output
        → Appends (d.output.taken output) (d.output.taken ended) text
        → d.output.flushed ended ≡ true
        → d.output.failures ended ≡ d.output.failures output
        → (m next new_host).left ended
        → status ≡ 0
        → new ≡ old
        → IsShown text host new_host old new status
    Cut : (next : H) (output ended : O)
        → (m host next).is_output output
        → IsNewWriter d.output output
        → ReportsFront d.output output ended text
        → (m next new_host).left ended
        → status ≡ 2
        → Says writes old new (open_message (codes "-"))
        → IsShown text host new_host old new status

  -- What the program does: the words could not be read; or they ask for a text; or they are refused; or they are a line.
  pub data CliAnswers (o : Opened H R) (answer : List (List ℕ) → Option (List ℕ)) (host new_host : H) (old new : MessageWriter M) (status : ℕ) : Type 0 where
    Mute : (kind : ErrorKind) (fault : LineFault)
        → (m host new_host).mute kind
        → (kind ≡ ErrorKinds.OutOfMemory → fault ≡ LineFaults.Memory)
        → (kind ≢ ErrorKinds.OutOfMemory → fault ≡ LineFaults.BadOption)
        → status ≡ status_of_line fault
        → Says writes old new (line_message (line_label fault))
        → CliAnswers o answer host new_host old new status
    Shown : (next : H) (words : List (List ℕ)) (text : List ℕ)
        → (m host next).asked words
        → answer words ≡ Some text
        → IsShown text next new_host old new status
        → CliAnswers o answer host new_host old new status
    BadWords : (words : List (List ℕ)) (fault : LineFault)
        → (m host new_host).asked words
        → answer words ≡ None
        → LineReads (line_of_words words) (Err fault)
        → status ≡ status_of_line fault
        → Says writes old new (line_message (line_label fault))
        → CliAnswers o answer host new_host old new status
    Worked : (next : H) (words : List (List ℕ)) (line : Said)
        → (m host next).asked words
        → answer words ≡ None
        → line_of_words words ≡ Ok line
        → Works o line next new_host old new status
        → CliAnswers o answer host new_host old new status
