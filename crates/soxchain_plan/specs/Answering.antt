-- What the program does, on any host (this project's profile).
use Rattle.std.specs.Prelude.{◌≡◌, ◌≢◌, ℕ, true, List, [], ◌++◌, Option, Some, None, Ok, Err, codes}
use Rattle.std.specs.Io.KnownBytes.{Appends}
use Rattle.std.specs.declared.io.ErrorKind.{ErrorKind}
use Rattle.std.specs.declared.io.ErrorKind.TheVariants as ErrorKinds
use Rattle.fx_frame_base.specs.Io.{ByteReader, ByteWriter}
use Rattle.fx_plan.specs.declared.line.LineFault.{LineFault}
use Rattle.fx_plan.specs.declared.line.LineFault.TheVariants as LineFaults
use Rattle.fx_plan.specs.Line.{Said, line_of_words}
use Rattle.fx_sound.specs.declared.head.Head.{Head}
use Rattle.fx_sound.specs.declared.head.HeadFault.{HeadFault}
use Rattle.fx_plan.specs.CommandLines.{LineReads, coefficient_files, effects_in, file_name, planning_in}
use Rattle.fx_plan.specs.Plans.{RefusesPlan, all_faults, head_layout}
use Rattle.fx_plan.specs.declared.fault.PlanFault.{PlanFault}
use Rattle.soxchain.specs.declared.preparing.Refusal.TheVariants as Refusals
use Rattle.soxchain.specs.FileMessages.{open_message}
use Rattle.soxchain.specs.Messages.{line_feed, line_label, line_message, refusal_message}
use Rattle.soxchain.specs.Program.{status_of_line, status_of_refusal}
use Rattle.soxchain.specs.MessageWriter.{WritesMessage, ReportsFront}
use Rattle.soxchain_common.specs.Consoles.{IsNewReader, IsNewWriter, Machine, Opened}
use Rattle.soxchain_common.specs.Files.{AreFronts, IsMemoryRefused, IsUnread}
use Rattle.soxchain_common.specs.SameFile.{Looks}
use Rattle.soxchain_plan.specs.declared.host.CreateFault.{CreateFault}
use Rattle.soxchain_plan.specs.declared.outline.Outline.{Outline}
use Rattle.soxchain_plan.specs.declared.style.Style.{Style}
use Rattle.soxchain_plan.specs.declared.style.Style.TheVariants.{Text, Json}
use Rattle.soxchain_plan.specs.Advising.{AnyAdvice, IsCreateAdvice, IsHeadAdvice, IsLineAdvice}
use Rattle.soxchain_plan.specs.Creating.{CannotCreate, CreateAnswers, MayCreate}
use Rattle.soxchain_plan.specs.Heads.{HeadIsRead}
use Rattle.soxchain_plan.specs.Outlines.{IsOutline}
use Rattle.soxchain_plan.specs.Quoted.{stop_json}
use Rattle.soxchain_plan.specs.Shown.{shown}
use Rattle.soxchain_plan.specs.Styles.{styled}
use Rattle.soxchain_plan.specs.Trailing.{AreBeyond, IsEndOf, plausible_end}

-- How streams and files are specified: standard input and a file that is read, as readers, and standard output, as a writer.
-- Each counts the calls of it that failed.
pub record PlanDevices (I R O : Type 0) : Type 0 where
  pub input : ByteReader I
  pub file : ByteReader R
  pub output : ByteWriter O

-- A message of soxchain was written, and a line that says what to do. This is its status.
pub record Advises {M : Type 0} (writes : ByteWriter M) (old new : M) (message advice : List ℕ) (code status : ℕ) : Type 0 where
  pub delivered : WritesMessage writes old new (message ++ (codes "soxchain-plan: " ++ advice ++ line_feed))
  pub status_is : status ≡ code

-- The program makes one request of the host after another; `m`, `looks`, `creates` and `o` state the request and the answer
-- between one of its states and the next. So the states name all requests, in order: where the last one is that of a call,
-- nothing came after it. `old` and `new` are standard error before and after: where they are equal, no message was written.
module _ {H I R O M : Type 0} (d : PlanDevices I R O) (m : H → H → Machine I O) (writes : ByteWriter M) where
  -- A text was shown on standard output, and flushed, no call of it failed, and no message was written; or one call failed, a
  -- prefix of the text was shown, and this was written. Nothing else was written to it.
  pub data IsPlanShown (text : List ℕ) (code : ℕ) (host new_host : H) (old new : M) (status : ℕ) : Type 0 where
    Whole : (next : H) (output ended : O)
        → (m host next).is_output output
        → Appends (d.output.taken output) (d.output.taken ended) text
        → d.output.flushed ended ≡ true
        → d.output.failures ended ≡ d.output.failures output
        → (m next new_host).left ended
        → new ≡ old
        → status ≡ code
        → IsPlanShown text code host new_host old new status
    Cut : (next : H) (output ended : O) (advice : List ℕ)
        → (m host next).is_output output
        → IsNewWriter d.output output
        → ReportsFront d.output output ended text
        → (m next new_host).left ended
        → Advises writes old new (open_message (codes "-")) advice 2 status
        → IsPlanShown text code host new_host old new status

  -- Why there is no plan was reported, with this status, and what to do, which `IsAdvice` describes. As JSON standard output then
  -- has it too, with the message and what to do; or there was no memory for that, which was reported too.
  pub data Stops (style : Style) (message : List ℕ) (IsAdvice : List ℕ → Type 0) (code : ℕ) (host new_host : H) (old new : M) (status : ℕ) : Type 0 where
    Delivered : (advice : List ℕ)
        → IsAdvice advice
        → style ≡ Text
        → new_host ≡ host
        → Advises writes old new message advice code status
        → Stops style message IsAdvice code host new_host old new status
    Quoted : (advice : List ℕ) (between : M)
        → IsAdvice advice
        → style ≡ Json
        → Advises writes old between message advice code code
        → IsPlanShown (stop_json code message advice) code host new_host between new status
        → Stops style message IsAdvice code host new_host old new status
    Unquoted : (advice advice_on_memory : List ℕ) (between : M)
        → IsAdvice advice
        → style ≡ Json
        → new_host ≡ host
        → Advises writes old between message advice code code
        → Advises writes between new (line_message (line_label LineFaults.Memory)) advice_on_memory (status_of_line LineFaults.Memory) status
        → Stops style message IsAdvice code host new_host old new status

module _ {H I R O M : Type 0} (d : PlanDevices I R O) (m : H → H → Machine I O) (looks : Looks H) (creates : CreateAnswers H) (writes : ByteWriter M) where
  -- The result for a line after the head of its input, which announces this end of the file: its plan has a first fault, or finds
  -- no memory; or what the plan contains finds none; or OUT cannot be made; or the plan is shown, and nothing is known against
  -- OUT. Once there is a plan, IN is inspected for bytes beyond that end, and only then OUT.
  pub data Plans (style : Style) (line : Said) (files : List (List ℕ)) (head : Head) (end : Option ℕ) (host new_host : H) (old new : M) (status : ℕ) : Type 0 where
    Unplanned : (fault : PlanFault)
        → RefusesPlan fault (all_faults (head_layout head) files (effects_in line))
        → Stops d m writes style (refusal_message line (Refusals.Plan fault)) AnyAdvice (status_of_refusal (Refusals.Plan fault)) host new_host old new status
        → Plans style line files head end host new_host old new status
    Unsaid : (looked : H) (beyond : Option ℕ)
        → all_faults (head_layout head) files (effects_in line) ≡ []
        → AreBeyond looks host looked (file_name line.input) (plausible_end head.announced end) beyond
        → Stops d m writes style (refusal_message line Refusals.Chain) AnyAdvice (status_of_refusal Refusals.Chain) looked new_host old new status
        → Plans style line files head end host new_host old new status
    Uncreated : (looked next : H) (beyond : Option ℕ) (name : List ℕ) (fault : CreateFault)
        → all_faults (head_layout head) files (effects_in line) ≡ []
        → AreBeyond looks host looked (file_name line.input) (plausible_end head.announced end) beyond
        → file_name line.output ≡ Some name
        → CannotCreate looks creates looked next (file_name line.input) name fault
        → Stops d m writes style (open_message name) (IsCreateAdvice fault) 2 next new_host old new status
        → Plans style line files head end host new_host old new status
    Planned : (looked next : H) (outline : Outline)
        → all_faults (head_layout head) files (effects_in line) ≡ []
        → IsOutline (planning_in head line files) outline
        → AreBeyond looks host looked (file_name line.input) (plausible_end head.announced end) outline.beyond
        → MayCreate looks creates looked next (file_name line.input) (file_name line.output)
        → IsPlanShown d m writes (shown style outline) 0 next new_host old new status
        → Plans style line files head end host new_host old new status

  -- The result for a line whose input is this reader: it begins with no head, or a read of it failed; or with this head.
  pub data Heads {X : Type 0} (reads : ByteReader X) (style : Style) (line : Said) (files : List (List ℕ)) (reader : X) (host new_host : H) (old new : M) (status : ℕ) : Type 0 where
    Refused : (fault : HeadFault)
        → HeadIsRead reads line.input_kind reader (Err fault)
        → Stops d m writes style (refusal_message line (Refusals.Head fault)) (IsHeadAdvice (reads.rest reader) fault) (status_of_refusal (Refusals.Head fault)) host new_host old new status
        → Heads reads style line files reader host new_host old new status
    Read : (head : Head) (end : Option ℕ)
        → HeadIsRead reads line.input_kind reader (Ok head)
        → IsEndOf (reads.rest reader) end
        → Plans style line files head end host new_host old new status
        → Heads reads style line files reader host new_host old new status

  -- The result for a line whose coefficient files are there: IN could not be opened; or its head was read, from standard input
  -- or from the file of IN's own name.
  pub data PlanLines (o : Opened H R) (style : Style) (line : Said) (files : List (List ℕ)) (host new_host : H) (old new : M) (status : ℕ) : Type 0 where
    Unopened : (next : H) (name : List ℕ)
        → file_name line.input ≡ Some name
        → o.unopened host next name
        → Stops d m writes style (open_message name) AnyAdvice 2 next new_host old new status
        → PlanLines o style line files host new_host old new status
    Standard : (next : H) (input : I)
        → file_name line.input ≡ None
        → (m host next).is_input input
        → IsNewReader d.input input
        → Heads d.input style line files input next new_host old new status
        → PlanLines o style line files host new_host old new status
    Named : (next : H) (name : List ℕ) (reader : R)
        → file_name line.input ≡ Some name
        → o.opened host next name reader
        → IsNewReader d.file reader
        → Heads d.file style line files reader next new_host old new status
        → PlanLines o style line files host new_host old new status

  -- The result for a line: a coefficient file that it names could not be read; or memory for their names was refused, or for
  -- their bytes; or all of them were read.
  pub data PlanWorks (o : Opened H R) (style : Style) (line : Said) (host new_host : H) (old new : M) (status : ℕ) : Type 0 where
    Unread : (next : H) (name : List ℕ)
        → IsUnread o d.file host next (coefficient_files (effects_in line)) name
        → Stops d m writes style (open_message name) AnyAdvice 2 next new_host old new status
        → PlanWorks o style line host new_host old new status
    MemoryRefused : (next : H)
        → IsMemoryRefused o d.file host next (coefficient_files (effects_in line))
        → Stops d m writes style (line_message (line_label LineFaults.Memory)) AnyAdvice (status_of_line LineFaults.Memory) next new_host old new status
        → PlanWorks o style line host new_host old new status
    Known : (next : H) (files : List (List ℕ))
        → AreFronts o d.file host next (coefficient_files (effects_in line)) files
        → PlanLines o style line files next new_host old new status
        → PlanWorks o style line host new_host old new status

  -- The result for the words: they ask for a text; or they are refused, after the style that the first may ask for; or they are
  -- a line.
  pub data Words (o : Opened H R) (answer : List (List ℕ) → Option (List ℕ)) (words : List (List ℕ)) (host new_host : H) (old new : M) (status : ℕ) : Type 0 where
    Shown : (text : List ℕ)
        → answer words ≡ Some text
        → IsPlanShown d m writes text 0 host new_host old new status
        → Words o answer words host new_host old new status
    BadWords : (fault : LineFault)
        → answer words ≡ None
        → LineReads (line_of_words (styled words).1) (Err fault)
        → Stops d m writes (styled words).0 (line_message (line_label fault)) (IsLineAdvice (styled words).1 fault) (status_of_line fault) host new_host old new status
        → Words o answer words host new_host old new status
    Worked : (line : Said)
        → answer words ≡ None
        → line_of_words (styled words).1 ≡ Ok line
        → PlanWorks o (styled words).0 line host new_host old new status
        → Words o answer words host new_host old new status

  -- What the program does: the words could not be read; or it answers them.
  pub data PlanAnswers (o : Opened H R) (answer : List (List ℕ) → Option (List ℕ)) (host new_host : H) (old new : M) (status : ℕ) : Type 0 where
    Mute : (next : H) (kind : ErrorKind) (fault : LineFault)
        → (m host next).mute kind
        → (kind ≡ ErrorKinds.OutOfMemory → fault ≡ LineFaults.Memory)
        → (kind ≢ ErrorKinds.OutOfMemory → fault ≡ LineFaults.BadOption)
        → Stops d m writes Text (line_message (line_label fault)) AnyAdvice (status_of_line fault) next new_host old new status
        → PlanAnswers o answer host new_host old new status
    Asked : (next : H) (words : List (List ℕ))
        → (m host next).asked words
        → Words o answer words next new_host old new status
        → PlanAnswers o answer host new_host old new status
