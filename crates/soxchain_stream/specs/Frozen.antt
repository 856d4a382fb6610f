-- A frozen chain as bytes (docs/library.md, "A frozen stream").
use Rattle.std.specs.Prelude.{ℕ, ◌<◌, ◌^◌, List, ◌∷◌, ◌++◌, flat_map, length, map}
use Rattle.std.specs.Int.{cast_unsigned, to_le_bytes, w64}
use Rattle.std.specs.List.{All}
use Rattle.fx_frame_base.specs.Frame.{IsWideFrame, Samples}

-- a number of 64 bits
abbrev pub IsWord : ℕ → Type 0
IsWord n = n < 2 ^ 64

-- a number as eight bytes, little-endian
abbrev pub word : ℕ → List ℕ
word n = to_le_bytes w64 n

-- a frame: how many samples it has, and these
abbrev pub frame_words : Samples → List ℕ
frame_words frame = length frame ∷ map (cast_unsigned w64) frame

-- "soxchain" and version 1; how many numbers there are, and these; and the frames
abbrev pub snapshot_words : List ℕ → List Samples → List ℕ
snapshot_words numbers frames = 0x6e696168_63786f73 ∷ 1 ∷ length numbers ∷ numbers ++ flat_map frame_words frames

abbrev pub snapshot_bytes : List ℕ → List Samples → List ℕ
snapshot_bytes numbers frames = flat_map word (snapshot_words numbers frames)

-- numbers and frames that may be stored so
pub record AreStored (numbers : List ℕ) (frames : List Samples) : Type 0 where
  pub words : All IsWord (snapshot_words numbers frames)
  pub frames_wide : All IsWideFrame frames
