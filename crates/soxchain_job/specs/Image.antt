-- The four files of a job.
use Rattle.std.specs.Prelude.{ℕ, Bool, true, false, List, [], Option, Some, None}
use Rattle.soxchain_job.specs.declared.disk.FileName.{FileName}
use Rattle.soxchain_job.specs.declared.disk.FileName.TheVariants.{Part, NewCheckpoint, Checkpoint, Out}

-- the bytes of each file, None where there is none
pub record Image : Type 0 where
  pub part : Option (List ℕ)
  pub new_checkpoint : Option (List ℕ)
  pub checkpoint : Option (List ℕ)
  pub out : Option (List ℕ)

abbrev pub at : FileName → Image → Option (List ℕ)
at Part i = i.part
at NewCheckpoint i = i.new_checkpoint
at Checkpoint i = i.checkpoint
at Out i = i.out

abbrev pub put : FileName → Option (List ℕ) → Image → Image
put Part v i = record i { part = v }
put NewCheckpoint v i = record i { new_checkpoint = v }
put Checkpoint v i = record i { checkpoint = v }
put Out v i = record i { out = v }

-- the bytes of a file, none where there is no file
abbrev pub contents_of : Option (List ℕ) → List ℕ
contents_of None = []
contents_of (Some bytes) = bytes

abbrev pub bytes_at : FileName → Image → List ℕ
bytes_at name i = contents_of (at name i)

abbrev pub is_present : Option (List ℕ) → Bool
is_present None = false
is_present (Some bytes) = true

abbrev pub renamed : FileName → FileName → Image → Image
renamed from to i = put from None (put to (at from i) i)
