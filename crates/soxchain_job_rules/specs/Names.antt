-- The names of the files of a job.
use Rattle.std.specs.Prelude.{◌≡◌, ◌⊎◌, ◌<◌, ◌==◌, ◌++◌, if◌then◌else◌, ℕ, Bool, List, length, Option, unwrap_or, codes}
use Rattle.std.specs.List.{after_last, before_last, list_any}
use Rattle.soxchain_job_rules.specs.declared.own_file.OwnFile.{OwnFile}
use Rattle.soxchain_job_rules.specs.declared.own_file.OwnFile.TheVariants.{Out, Part, Checkpoint, NewCheckpoint, Lock, Record, NewRecord}

-- the names from which the others follow
pub record JobTexts : Type 0 where
  pub out : List ℕ
  pub record_name : List ℕ

-- those of a job, whose record has the name that is wanted, if one is
abbrev pub job_texts : List ℕ → Option (List ℕ) → JobTexts
job_texts out wanted = record { out = out; record_name = unwrap_or wanted (out ++ codes ".job.json") }

abbrev pub own_name : JobTexts → OwnFile → List ℕ
own_name texts Out = texts.out
own_name texts Part = texts.out ++ codes ".part"
own_name texts Checkpoint = texts.out ++ codes ".job"
own_name texts NewCheckpoint = texts.out ++ codes ".job.new"
own_name texts Lock = texts.out ++ codes ".job.lock"
own_name texts Record = texts.record_name
own_name texts NewRecord = texts.record_name ++ codes ".new"

-- no two files have one name
abbrev pub AreDistinct : JobTexts → Type 0
AreDistinct texts = (file other : OwnFile) → own_name texts file ≡ own_name texts other → file ≡ other

-- the rank of a file in their order: those whose names begin with OUT, and then the record
abbrev pub rank_of : OwnFile → ℕ
rank_of Out = 0
rank_of Part = 1
rank_of Checkpoint = 2
rank_of NewCheckpoint = 3
rank_of Lock = 4
rank_of Record = 5
rank_of NewRecord = 6

-- the record has the name of this file, or is written under it
abbrev pub TakesRecordName : JobTexts → OwnFile → Type 0
TakesRecordName texts file = (own_name texts file ≡ own_name texts Record) ⊎ (own_name texts file ≡ own_name texts NewRecord)

-- the record takes the name of no other file
abbrev pub IsFree : JobTexts → Type 0
IsFree texts = (file : OwnFile) → rank_of file < rank_of Record → ¬ TakesRecordName texts file

-- the first of the other files whose name the record takes
pub record IsFirstTaken (texts : JobTexts) (file : OwnFile) : Type 0 where
  pub other : rank_of file < rank_of Record
  pub taken : TakesRecordName texts file
  pub first : (before : OwnFile) → rank_of before < rank_of file → ¬ TakesRecordName texts before

abbrev pub is_slash : ℕ → Bool
is_slash byte = byte == 47

-- the last part of a name: what stands after the last slash
abbrev pub base_text : List ℕ → List ℕ
base_text name = after_last is_slash name

abbrev pub is_empty : List ℕ → Bool
is_empty text = length text == 0

-- the folder of a name: what stands before the last slash; the root where that is nothing, and `.` where there is no slash
abbrev pub folder_text : List ℕ → List ℕ
folder_text name = if list_any is_slash name then (if is_empty (before_last is_slash name) then codes "/" else before_last is_slash name) else codes "."
