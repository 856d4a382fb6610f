-- How the frames of a line lie in a ring buffer of samples.
use Rattle.std.specs.Prelude.{ℕ, List, ◌≤◌, ◌^◌, ◌*◌, length, ◌≡◌, refl}
use Rattle.std.specs.List.{All}
use Rattle.std.specs.Coded.{Coded, code_by, coded×, coded_list, coded_ℕ}
use Rattle.circular_buffer.specs.Buffer.{Buffer}
use Rattle.fx_frame_line.specs.Line.{Frames}

-- a line as data
abbrev pub frames_code : {X : Type 0} → Coded X → Coded (Frames X)
frames_code {X} c =
    code_by (List (List X) × (ℕ × ℕ)) (coded× (coded_list (coded_list c)) (coded× coded_ℕ coded_ℕ)) (λ l. (l.items, (l.capacity, l.channels))) (λ p. record { items = p.0; capacity = p.1.0; channels = p.1.1 }) (λ _. refl)

-- 1 to 16 channels, at most 2^28 frames, no more frames than the capacity, and each frame with a sample for each channel
pub record IsShaped {X : Type 0} (l : Frames X) : Type 0 where
  pub some : 1 ≤ l.channels
  pub bound : l.channels ≤ 16
  pub small : l.capacity ≤ 2 ^ 28
  pub within : length l.items ≤ l.capacity
  pub each : All (λ f. length f ≡ l.channels) l.items

-- the ring buffer has exactly one place for each sample of its capacity
pub record IsRing {X : Type 0} (channels capacity len : ℕ) (samples : Buffer X) : Type 0 where
  pub some : 1 ≤ channels
  pub bound : channels ≤ 16
  pub small : capacity ≤ 2 ^ 28
  pub within : len ≤ capacity
  pub filled : length samples.items ≡ len * channels
  pub free : samples.capacity ≡ capacity * channels
