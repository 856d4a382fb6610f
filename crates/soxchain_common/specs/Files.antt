-- The coefficient files as they are read (this project's profile).
use Rattle.std.specs.Prelude.{◌≡◌, ◌≤◌, ℕ, ◌+◌, ◌^◌, List, [], ◌∷◌, ◌++◌, Some, IfSome, length, slice_get, take, if◌then◌else◌, nat_lt}
use Rattle.fx_frame_base.specs.Io.{ByteReader}
use Rattle.soxchain_common.specs.Consoles.{IsNewReader, Opened}
use Rattle.soxchain_common.specs.declared.files.FilesFault.{FilesFault}
use Rattle.soxchain_common.specs.declared.files.FilesFault.TheVariants.{CannotRead, Memory}

-- the files so far, and one more where they are fewer than 32
abbrev pub kept_with : List (List ℕ) → List ℕ → List (List ℕ)
kept_with files bytes = if nat_lt (length files) 32 then files ++ bytes ∷ [] else files

-- `o` states the request to a host and its answer, between one of its states and the next.
module _ {H R : Type 0} (o : Opened H R) (reads : ByteReader R) where
  -- The file of this name was opened as a new reader, and closed once `failures` reads of it had failed. Nothing else was asked
  -- for.
  pub record IsOpenedAndClosed (failures : ℕ) (old new : H) (name : List ℕ) : Type 0 where
    pub reader : R
    pub between : H
    pub ended : R
    pub is_opened : o.opened old between name reader
    pub fresh : IsNewReader reads reader
    pub is_closed : o.closed between new ended
    pub failed : reads.failures ended ≡ failures

  -- The file of this name was opened and closed, and no read of it failed. These bytes were read of it and no more: they are its first
  -- 2^20 + 1 bytes, or all that it has.
  pub record IsFront (old new : H) (name bytes : List ℕ) : Type 0 where
    pub file : IsOpenedAndClosed 0 old new name
    pub delivered : reads.delivered file.ended ≡ length bytes
    pub bound : length bytes ≤ 2 ^ 20 + 1
    pub front : IfSome (reads.rest file.reader) (λ all. bytes ≡ take (2 ^ 20 + 1) all)

  -- the files of these names were read so one after another, and nothing else was asked for; each has these first bytes
  abbrev pub AreRead : H → H → List (List ℕ) → List (List ℕ) → Type 0
  AreRead old new [] [] = new ≡ old
  AreRead old new (name ∷ names) (bytes ∷ files) = (next : H) × IsFront old next name bytes × AreRead next new names files
  AreRead old new names files = ⊥

  -- the files of these names were read so, and the first 32 of them are kept
  pub record AreFronts (old new : H) (names files : List (List ℕ)) : Type 0 where
    pub all : List (List ℕ)
    pub read : AreRead old new names all
    pub kept : files ≡ take 32 all

  -- the file of this name was asked for: its opening was refused; or it was opened, one read of it failed, and it was closed
  pub data IsAsked (old new : H) (name : List ℕ) : Type 0 where
    Refused : o.unopened old new name → IsAsked old new name
    Failed : IsOpenedAndClosed 1 old new name → IsAsked old new name

  -- the files of the names before a place were read, and nothing else was asked for up to here
  pub record AreReadTo (old before : H) (names : List (List ℕ)) (place : ℕ) (name : List ℕ) : Type 0 where
    pub is_there : slice_get names place ≡ Some name
    pub files : List (List ℕ)
    pub read : AreRead old before (take place names) files

  -- the name at some place: the files of the names before it were read, then its own was asked for, and nothing else was
  pub record IsUnread (old new : H) (names : List (List ℕ)) (name : List ℕ) : Type 0 where
    pub place : ℕ
    pub before : H
    pub front : AreReadTo old before names place name
    pub asked : IsAsked before new name

  -- There was no memory for the names, and nothing was asked for; or none for the bytes of a file: after those before it, it
  -- was opened and closed, and no read of it failed.
  pub data IsMemoryRefused (old new : H) (names : List (List ℕ)) : Type 0 where
    Names : new ≡ old → IsMemoryRefused old new names
    Bytes : (place : ℕ) (name : List ℕ) (before : H)
        → AreReadTo old before names place name
        → IsOpenedAndClosed 0 before new name
        → IsMemoryRefused old new names

  -- the fault is of the first of the files of these names that could not be read, or lack of memory
  abbrev pub IsOfFiles : H → H → List (List ℕ) → FilesFault → Type 0
  IsOfFiles old new names (CannotRead name) = IsUnread old new names name.now
  IsOfFiles old new names Memory = IsMemoryRefused old new names
