-- The invariant while the frames of a sound are read one by one.
use Rattle.std.specs.Prelude.{◌≡◌, ℕ, ◌*◌, ◌≤◌, List, length, drop, Option, Some}
use Rattle.fx_sound.specs.Sound.{Reading, size_of, within_sound}
use Rattle.fx_sound.specs.Container.{after_frames}

-- from `first` on, n frames were read, and `now` is how far that is
pub record RanFrames (first now : Reading) (bytes : List ℕ) (n : ℕ) (to_come : Option (List ℕ)) : Type 0 where
  pub whole : n * size_of first ≤ length (within_sound first.left bytes)
  pub now_is : now ≡ after_frames first n
  pub to_come_is : to_come ≡ Some (drop (n * size_of first) bytes)
