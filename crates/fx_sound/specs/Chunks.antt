-- What a WAVE head is, apart from how it is read: chunks in sequence, one of them `fmt `, and `data` after them
-- (Multimedia Programming Interface and Data Specifications 1.0, chapter 2, RIFF; this project's profile).
use Rattle.std.specs.Prelude.{◌≡◌, ℕ, ◌+◌, ◌%◌, ◌≤◌, false, All, List, ◌++◌, flat_map, length, take, codes, Ok}
use Rattle.std.specs.Int.{w32, from_le_bytes}
use Rattle.std.specs.Str.{bytes_eq}
use Rattle.fx_sound.specs.declared.fields.HeadFields.{HeadFields}
use Rattle.fx_sound.specs.Wave.{announced_of, after_riff, max_chunk_bytes, format_of}

-- a chunk: its name, its size, its data, and the pad byte after data of odd length
pub record Chunk : Type 0 where
  pub name : List ℕ
  pub size : List ℕ
  pub body : List ℕ
  pub pad : List ℕ

abbrev pub chunk_bytes : Chunk → List ℕ
chunk_bytes c = c.name ++ (c.size ++ (c.body ++ c.pad))

-- its size is that of its data, and its length is even
pub record IsChunk (c : Chunk) : Type 0 where
  pub named : length c.name ≡ 4
  pub sized : length c.size ≡ 4
  pub counts : from_le_bytes w32 c.size ≡ length c.body
  pub even : length c.pad ≡ length c.body % 2

-- a chunk of another name, which is skipped
pub record IsOther (c : Chunk) : Type 0 where
  pub is : IsChunk c
  pub no_format : bytes_eq c.name (codes "fmt ") ≡ false
  pub no_sound : bytes_eq c.name (codes "data") ≡ false

-- The bytes after `RIFF` are a head of these fields.
pub record IsWave (bytes : List ℕ) (l : HeadFields) : Type 0 where
  -- the size of the file, which is ignored; other chunks, the format, other chunks; the size of the sound, and the sound
  pub whole : List ℕ
  pub earlier : List Chunk
  pub format : Chunk
  pub later : List Chunk
  pub size : List ℕ
  pub sound : List ℕ
  pub layout_of_bytes : bytes ≡ whole ++ (codes "WAVE" ++ (flat_map chunk_bytes earlier ++ (chunk_bytes format ++ (flat_map chunk_bytes later ++ (codes "data" ++ (size ++ sound))))))
  pub whole_size : length whole ≡ 4
  pub sound_size : length size ≡ 4
  pub others : All IsOther earlier × All IsOther later
  -- one chunk has the format, in sixteen bytes or more
  pub is_format : IsChunk format
  pub named : format.name ≡ codes "fmt "
  pub long : 16 ≤ length format.body
  pub says : format_of (take 40 format.body) ≡ Ok l.format
  -- the sound is announced and begins after them, within the limit
  pub announced : l.announced ≡ announced_of (from_le_bytes w32 size)
  pub offset : l.offset ≡ 12 + length (flat_map chunk_bytes earlier) + length (chunk_bytes format) + length (flat_map chunk_bytes later) + 8
  pub near : l.offset ≤ max_chunk_bytes + 8

-- a WAVE head is read as such, and what is read as one is one
abbrev pub WaveIsRead : Type 0
WaveIsRead = (bytes : List ℕ) (l : HeadFields) → (IsWave bytes l → after_riff bytes ≡ Ok l) × (after_riff bytes ≡ Ok l → IsWave bytes l)
