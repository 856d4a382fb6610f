-- What a frame is. Source: this project's profile.
use Rattle.std.specs.Prelude.{ℕ, ℤ, pos, List, ◌++◌, ◌≤◌, ◌-◌, length, replicate, FitsSigned}
use Rattle.std.specs.List.{All}
use Rattle.std.specs.Int.{w32, w64}

-- the samples of a frame, one for each channel
abbrev pub Samples : Type 0
Samples = List ℤ

-- so many channels a frame can have
abbrev pub IsChannelCount : ℕ → Type 0
IsChannelCount n = (1 ≤ n) × (n ≤ 16)

-- 1 to 16 samples, each of which fits
pub record IsFrameOf {X : Type 0} (Fits : X → Type 0) (xs : List X) : Type 0 where
  pub some : 1 ≤ length xs
  pub bound : length xs ≤ 16
  pub fits : All Fits xs

-- 1 to 16 samples of 32 bits
abbrev pub IsFrame : Samples → Type 0
IsFrame = IsFrameOf (FitsSigned w32)

-- 1 to 16 samples of 64 bits
abbrev pub IsWideFrame : Samples → Type 0
IsWideFrame = IsFrameOf (FitsSigned w64)

module _ {X : Type 0} where
  -- a frame that is silent in every channel
  abbrev pub silence_of : X → ℕ → List X
  silence_of silent_sample channels = replicate channels silent_sample

  -- all sixteen places, those beyond the samples silent
  abbrev pub padded_by : X → List X → List X
  padded_by silent_sample xs = xs ++ replicate (16 - length xs) silent_sample

-- a frame of silence
abbrev pub silence : ℕ → Samples
silence channels = silence_of (pos 0) channels

-- all sixteen places, those beyond the samples at zero
abbrev pub padded_frame : Samples → List ℤ
padded_frame xs = padded_by (pos 0) xs
