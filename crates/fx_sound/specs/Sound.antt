-- The sound that follows a head (RIFF WAVE, Sun AU, this project's profile).
use Rattle.std.specs.Prelude.{◌≡◌, ℕ, ◌+◌, ◌-◌, ◌*◌, ◌^◌, ◌<◌, ◌≤◌, min, Bool, false, true, List, length, take, drop, Option, None, Some}
use Rattle.fx_frame_base.specs.declared.coding.Coding.{Coding}
use Rattle.fx_frame_base.specs.declared.stage.TheConstants.{MAX_FRAMES}
use Rattle.fx_frame_base.specs.Frame.{Samples}
use Rattle.fx_sound.specs.FrameCoding.{frame_size, coded_samples}

-- the progress of reading a sound: the announced bytes that are left, the frames, the missing bytes, the bytes after the
-- last frame, and whether the end was reached
pub record Reading : Type 0 where
  pub coding : Coding
  pub channels : ℕ
  pub left : Option ℕ
  pub frames : ℕ
  pub missing : ℕ
  pub stray : ℕ
  pub over : Bool

-- how many bytes a frame takes
abbrev pub size_of : Reading → ℕ
size_of p = frame_size p.coding p.channels

-- at most the announced bytes
abbrev pub within_sound : Option ℕ → List ℕ → List ℕ
within_sound None bytes = bytes
within_sound (Some n) bytes = take n bytes

-- n, or what is announced where that is less
abbrev pub at_most_announced : Option ℕ → ℕ → ℕ
at_most_announced None n = n
at_most_announced (Some left) n = min left n

-- what is announced beyond n bytes
abbrev pub beyond : Option ℕ → ℕ → Option ℕ
beyond None n = None
beyond (Some left) n = Some (left - n)

-- how many announced bytes are missing where n are there
abbrev pub lacking : Option ℕ → ℕ → ℕ
lacking None n = 0
lacking (Some left) n = left - n

-- one more frame was read
abbrev pub after_frame : Reading → Reading
after_frame p = record p { left = beyond p.left (size_of p); frames = p.frames + 1 }

-- the end was reached after `got` more bytes
abbrev pub sound_after_end : Reading → ℕ → Reading
sound_after_end p got = record p { missing = lacking p.left got; stray = got; over = true }

-- a whole frame is at the front of the sound, and is removed from what is to come
pub record TakesFrame (p : Reading) (bytes : List ℕ) (frame : Samples) (rest : Option (List ℕ)) : Type 0 where
  pub whole : size_of p ≤ length (within_sound p.left bytes)
  pub samples : frame ≡ coded_samples p.coding p.channels (take (size_of p) bytes)
  pub others : rest ≡ Some (drop (size_of p) bytes)

-- less than a whole frame is left of the sound
pub record EndsSound (p : Reading) (bytes : List ℕ) (new : Reading) : Type 0 where
  pub part : length (within_sound p.left bytes) < size_of p
  pub counts : new ≡ sound_after_end p (length (within_sound p.left bytes))

-- `n` whole frames stand at the front of these bytes, are announced, and are no more than may be read
pub record AreHeld (p : Reading) (bytes : List ℕ) (n : ℕ) : Type 0 where
  pub there : n * size_of p ≤ length bytes
  pub announced : n * size_of p ≤ at_most_announced p.left (n * size_of p)
  pub bound : p.frames + n ≤ 2 ^ 40
  pub begun : p.over ≡ true → n ≡ 0

-- no frame that may be read follows the first n, among `held` bytes of a sound that goes on
abbrev pub HoldsNoMore : Reading → ℕ → ℕ → Type 0
HoldsNoMore p held n = p.over ≡ false → p.frames + n < MAX_FRAMES → at_most_announced p.left held < (n + 1) * size_of p
