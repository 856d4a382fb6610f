-- What a crash may leave of each call of a disk, and how time passes.
use Rattle.std.specs.Prelude.{◌≡◌, ◌⊎◌, ℕ, ◌≤◌, ◌<◌, List, ◌++◌, take, None, Result, IsErrOf}
use Rattle.soxchain_job.specs.Image.{Image, at, bytes_at, put, renamed}
use Rattle.soxchain_job.specs.declared.disk.DiskFault.{DiskFault}
use Rattle.soxchain_job.specs.declared.disk.DiskFault.TheVariants.{Failed}
use Rattle.soxchain_job.specs.declared.disk.FileName.{FileName}

-- A disk. A crash is one of the program alone, or of the whole machine.
pub record DiskModel (D : Type 0) : Type 1 where
  -- whether it is known what reads return and what a crash leaves: of a disk in memory it is, of the files of a system it is not
  pub known : Type 0
  -- what a read returns, and what other programs see
  pub seen : D → Image
  -- what may be found after a crash at this moment
  pub may_leave : D → Image → Type 0
  -- the moment, as a number that does not fall
  pub moment : D → ℕ
  -- what may be found after a crash at some moment from that one on, during a call or between two
  pub left_since : D → ℕ → Image → Type 0
  -- the moment when the program began
  pub began : D → ℕ
  -- how often the disk has failed
  pub faults : D → ℕ

-- a crash at this moment leaves what has P
abbrev pub LeavesNow : {D : Type 0} → DiskModel D → D → (Image → Type 0) → Type 0
LeavesNow disk d P = (c : Image) → disk.may_leave d c → P c

-- a call answers that the disk failed only where the count of its faults rose
pub record CountsFaults {D T : Type 0} (disk : DiskModel D) (old new : D) (result : Result T DiskFault) : Type 0 where
  pub later : disk.faults old ≤ disk.faults new
  pub failed : IsErrOf result Failed → disk.faults old < disk.faults new

-- only the file of this name differs
abbrev pub Changed : FileName → Image → Image → Type 0
Changed name d c = c ≡ put name (at name c) d

-- anything follows the bytes of the file
pub record Appended (name : FileName) (d c : Image) : Type 0 where
  pub elsewhere : Changed name d c
  pub tail : List ℕ
  pub bytes : bytes_at name c ≡ bytes_at name d ++ tail

-- anything follows the first bytes of the file
pub record Truncated (name : FileName) (len : ℕ) (d c : Image) : Type 0 where
  pub elsewhere : Changed name d c
  pub tail : List ℕ
  pub bytes : bytes_at name c ≡ take len (bytes_at name d) ++ tail

-- as before, or with the other name
abbrev pub Renamed : FileName → FileName → Image → Image → Type 0
Renamed from to d c = (c ≡ d) ⊎ (c ≡ renamed from to d)

-- as before, or without the file
abbrev pub Removed : FileName → Image → Image → Type 0
Removed name d c = (c ≡ d) ⊎ (c ≡ put name None d)

-- each outcome of a crash now is an outcome before, after a step
abbrev pub Follows : (Image → Image → Type 0) → (Image → Type 0) → (Image → Type 0) → Type 0
Follows step old new = (c : Image) → new c → (d : Image) × old d × step d c

-- a crash leaves the file of this name as it is seen
abbrev pub Durable : FileName → Image → (Image → Type 0) → Type 0
Durable name seen outcomes = (c : Image) → outcomes c → at name c ≡ at name seen

-- Time passes in the same run: what may be found after a crash since t is what might have been found before, or may be now.
pub record Elapses {D : Type 0} (disk : DiskModel D) (old new : D) : Type 0 where
  pub same_run : disk.began new ≡ disk.began old
  pub later : disk.moment old ≤ disk.moment new
  pub nothing_else : (t : ℕ) (c : Image) → t ≤ disk.moment old → disk.left_since new t c → disk.left_since old t c ⊎ disk.may_leave new c
  pub keeps : (t : ℕ) (c : Image) → t ≤ disk.moment old → disk.left_since old t c → disk.left_since new t c

-- A crash at any moment since old leaves what has P.
pub record LeavesOnly {D : Type 0} (disk : DiskModel D) (old new : D) (P : Image → Type 0) : Type 0 where
  pub same_run : disk.began new ≡ disk.began old
  pub later : disk.moment old ≤ disk.moment new
  pub each : (c : Image) → disk.left_since new (disk.moment old) c → P c
  -- for what began earlier
  pub before : (t : ℕ) (c : Image) → t ≤ disk.moment old → disk.left_since new t c → disk.left_since old t c ⊎ P c

-- The same through any number of runs.
pub record LeavesThrough {D : Type 0} (disk : DiskModel D) (old new : D) (P : Image → Type 0) : Type 0 where
  pub later : disk.moment old ≤ disk.moment new
  pub each : (c : Image) → disk.left_since new (disk.moment old) c → P c
  -- for what began earlier
  pub before : (t : ℕ) (c : Image) → t ≤ disk.moment old → disk.left_since new t c → disk.left_since old t c ⊎ P c
