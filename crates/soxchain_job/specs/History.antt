-- The images that a disk in memory has had.
use Rattle.std.specs.Prelude.{◌≡◌, ◌⊎◌, ℕ, List, [], ◌∷◌, length, drop, Vec, Option, Some, None}
use mathlib.Core.Logic.{inl, inr}
use Rattle.std.specs.declared.alloc.Global.{Global}
use Rattle.soxchain_job.specs.Disk.{DiskModel}
use Rattle.soxchain_job.specs.Image.{Image}
use Rattle.soxchain_job.specs.declared.files.Files.{Files}
use Rattle.soxchain_job.specs.declared.files.MemoryDisk.{MemoryDisk}

abbrev pub items_of : Option (Vec ℕ Global) → Option (List ℕ)
items_of None = None
items_of (Some v) = Some v.items

abbrev pub image_of : Files → Image
image_of f = record { part = items_of f.part; new_checkpoint = items_of f.new_checkpoint; checkpoint = items_of f.checkpoint; out = items_of f.out }

-- one of them is this
abbrev pub WasBefore : List Files → Image → Type 0
WasBefore [] c = ⊥
WasBefore (f ∷ history) c = (c ≡ image_of f) ⊎ WasBefore history c

-- a disk in memory does each call at once, so a crash leaves what is seen
abbrev pub memory_model : DiskModel MemoryDisk
memory_model = record {
  known = Unit {0};
  seen = λ m. image_of m.files;
  may_leave = λ m c. c ≡ image_of m.files;
  moment = λ m. length m.history.items;
  left_since = λ m t c. (c ≡ image_of m.files) ⊎ WasBefore (drop t m.history.items) c;
  began = λ m. m.began;
  faults = λ m. 0;
}

none_left : (history : List Files) (c : Image) → WasBefore (drop (length history) history) c → ⊥
none_left [] c had = had
none_left (f ∷ history) c had = none_left history c had

pub only_image : (history : List Files) (now c : Image) → (c ≡ now) ⊎ WasBefore (drop (length history) history) c → c ≡ now
only_image history now c (inl is) = is
only_image history now c (inr had) = absurd (none_left history c had)
