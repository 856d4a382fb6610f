-- The samples of one channel of frames whose samples lie one after another (this project's profile).
use Rattle.std.specs.Prelude.{ℕ, ℤ, pos, ◌≡◌, ◌<◌, ◌+◌, ◌*◌, Bool, List, slice_index_or}
use Rattle.fx_fixed.specs.Rounding.{rounding}
use Rattle.fx_frame_base.specs.Lists.{IsOtherPlace}

-- the sample of a channel in frame i, of frames with so many channels
abbrev pub sample_at : List ℤ → ℕ → ℕ → ℕ → ℤ
sample_at samples channels channel i = slice_index_or samples (i * channels + channel) (pos 0)

-- in each of `count` frames, the sample of that channel is the one for its place
abbrev pub WritesChannel : ℕ → ℕ → ℕ → List ℤ → (ℕ → ℤ) → Type 0
WritesChannel channels channel count samples written = (i : ℕ) → i < count → sample_at samples channels channel i ≡ written i

-- in each of `count` frames, the sample of that channel is the rounded one for its place
abbrev pub WritesRounded : ℕ → ℕ → ℕ → List ℤ → (ℕ → ℤ × Bool) → Type 0
WritesRounded channels channel count samples rounds = WritesChannel channels channel count samples (λ i. (rounds i).0)

-- nothing changes but that channel of `count` frames
abbrev pub KeepsOtherPlaces : ℕ → ℕ → ℕ → List ℤ → List ℤ → Type 0
KeepsOtherPlaces channels channel count old new = (k : ℕ) → IsOtherPlace channels channel count k → slice_index_or new k (pos 0) ≡ slice_index_or old k (pos 0)

-- the sum at place i over the denominator, rounded
abbrev pub rounded_over : ℕ → List ℤ → ℕ → ℤ × Bool
rounded_over denominator sums i = rounding (slice_index_or sums i (pos 0)) denominator
