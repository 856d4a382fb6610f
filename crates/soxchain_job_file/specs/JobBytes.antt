-- The bytes of OUT.job, format 2: a line of text, what the job is known by, its runs, the checkpoint after its size, and the XXH64 of all
-- of these. This project chose them.
use Rattle.std.specs.Prelude.{ℕ, ◌<◌, ◌^◌, List, [], ◌∷◌, ◌++◌, length, map, All, codes, string_bytes, IsUtf8, FitsSigned}
use Rattle.std.specs.Int.{w64, cast_unsigned}
use Rattle.std.specs.List.{flat_map}
use Rattle.byteorder.specs.Endian.{little_bytes}
use Rattle.soxchain_xxh64.specs.Xxh64.{xxh64}
use Rattle.soxchain_job_file.specs.declared.identity.Identity.{Identity}
use Rattle.soxchain_job_file.specs.declared.identity.Runs.{Runs}
use Rattle.soxchain_job_file.specs.declared.identity.Stamp.{Stamp}
use Rattle.soxchain_job_file.specs.declared.job_file.JobFile.{JobFile}

-- what an identity says: words are texts by their bytes
pub record IdentityValue : Type 0 where
  pub words : List (List ℕ)
  pub files : List ℕ
  pub size : ℕ
  pub modified : Stamp

-- what a file says
pub record JobValue : Type 0 where
  pub identity : IdentityValue
  pub runs : Runs
  pub checkpoint : List ℕ

abbrev pub identity_value : Identity → IdentityValue
identity_value identity = record { words = map string_bytes identity.words.items; files = identity.files.items; size = identity.size; modified = identity.modified }

abbrev pub job_value : JobFile → JobValue
job_value file = record { identity = identity_value file.identity; runs = file.runs; checkpoint = file.checkpoint.now }

-- the line that a file begins with
abbrev pub first_line : List ℕ
first_line = codes "soxchain-job 2" ++ 10 ∷ []

-- a number in 64 bits, the lowest byte first
unfoldable pub word_bytes : ℕ → List ℕ
word_bytes number = little_bytes 8 number

-- how many bytes a text has, and the text
abbrev pub text_bytes : List ℕ → List ℕ
text_bytes text = word_bytes (length text) ++ text

-- how many there are, and each
abbrev pub list_bytes : {X : Type 0} → (X → List ℕ) → List X → List ℕ
list_bytes item_bytes items = word_bytes (length items) ++ flat_map item_bytes items

abbrev pub stamp_bytes : Stamp → List ℕ
stamp_bytes stamp = word_bytes (cast_unsigned w64 stamp.seconds) ++ word_bytes stamp.nanoseconds

abbrev pub identity_bytes : IdentityValue → List ℕ
identity_bytes identity =
    list_bytes text_bytes identity.words ++ list_bytes word_bytes identity.files ++ word_bytes identity.size ++ stamp_bytes identity.modified

abbrev pub runs_bytes : Runs → List ℕ
runs_bytes runs = word_bytes runs.began ++ word_bytes runs.count

-- all before the checkpoint, of which the size is given
abbrev pub head_bytes : IdentityValue → Runs → ℕ → List ℕ
head_bytes identity runs size = first_line ++ identity_bytes identity ++ runs_bytes runs ++ word_bytes size

-- bytes, and their hash
abbrev pub sealed : List ℕ → List ℕ
sealed bytes = bytes ++ word_bytes (xxh64 bytes)

-- all before the hash
unfoldable pub front_bytes : JobValue → List ℕ
front_bytes job = head_bytes job.identity job.runs (length job.checkpoint) ++ job.checkpoint

-- the file
unfoldable pub job_bytes : JobValue → List ℕ
job_bytes job = sealed (front_bytes job)

-- each number fits its place, and the words are texts
abbrev pub FitsWord : ℕ → Type 0
FitsWord number = number < 2 ^ 64

abbrev pub FitsText : List ℕ → Type 0
FitsText text = FitsWord (length text) × IsUtf8 text

abbrev pub FitsList : {X : Type 0} → (X → Type 0) → List X → Type 0
FitsList Fits items = FitsWord (length items) × All Fits items

abbrev pub FitsStamp : Stamp → Type 0
FitsStamp stamp = FitsSigned w64 stamp.seconds × (stamp.nanoseconds < 10 ^ 9)

abbrev pub FitsIdentity : IdentityValue → Type 0
FitsIdentity identity =
    FitsList FitsText identity.words × FitsList FitsWord identity.files × FitsWord identity.size × FitsStamp identity.modified

abbrev pub FitsRuns : Runs → Type 0
FitsRuns runs = FitsWord runs.began × FitsWord runs.count

abbrev pub FitsJob : JobValue → Type 0
FitsJob job = FitsIdentity job.identity × FitsRuns job.runs × FitsWord (length job.checkpoint)
