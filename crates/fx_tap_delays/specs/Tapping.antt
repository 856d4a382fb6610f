-- The line of an effect that depends on earlier frames, and the history of a frame after those of a line (this project's profile).
use Rattle.std.specs.Prelude.{ℕ, ℤ, List, [], ◌∷◌, ◌++◌, ◌*◌, ◌≤◌, ◌≡◌, length}
use Rattle.fx_frame_base.specs.Frame.{Samples}
use Rattle.fx_frame.specs.History.{History, sample_before}
use Rattle.fx_frame.specs.Tapped.{Taps, clips_in_block}
use Rattle.fx_frame_line.specs.Line.{Frames}

-- the history of a frame that comes after these frames
abbrev pub history_after : List Samples → Samples → History
history_after items frame = sample_before (items ++ frame ∷ []) (length items)

-- the line of such an effect
pub record IsLineFor {M : Type 0} (taps : Taps M) (m : M) (line : Frames ℤ) : Type 0 where
  -- of frames as those that it takes
  pub channels : line.channels ≡ taps.channels m
  -- for as many as an output frame depends on
  pub capacity : line.capacity ≡ taps.reach m

-- the clips that such an effect counted in what it made of `count` frames of these samples, which come after those frames
pub record CountsClips {M : Type 0} (taps : Taps M) (m : M) (items : List Samples) (count : ℕ) (samples : List ℤ) (clips : ℕ) : Type 0 where
  pub counted : clips ≡ clips_in_block taps m items count samples
  -- no more for each frame than it may have
  pub bound : clips ≤ count * taps.max_clips m
  -- and no more than its samples, of at most 16 channels
  pub small : clips ≤ 16 * count
