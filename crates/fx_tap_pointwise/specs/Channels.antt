-- One channel of frames whose samples lie one after another (this project's profile).
use Rattle.std.specs.Prelude.{ℕ, ℤ, pos, ◌≡◌, ◌<◌, ◌≤◌, ◌^◌, ◌+ℤ◌, ◌*ℤ◌, Bool, List, length, slice_index_or, unsigned_abs}
use Rattle.fx_fixed.specs.Rounding.{rounding}
use Rattle.fx_tap_sums.specs.ChannelSamples.{sample_at}

-- what an effect makes of the sample of a channel in frame i
abbrev pub rounded_at : (ℤ → ℤ × Bool) → List ℤ → ℕ → ℕ → ℕ → ℤ × Bool
rounded_at rounded samples channels channel i = rounded (sample_at samples channels channel i)

-- the mean of two channels in frame i, rounded once
abbrev pub mean_at : List ℤ → ℕ → ℕ → ℕ → ℕ → ℤ × Bool
mean_at samples channels first second i = rounding (sample_at samples channels first i +ℤ sample_at samples channels second i) 2

-- no sum exceeds the maximum in magnitude with the sample of that channel added, times the weight, if the sample has 32 bits
abbrev pub SumsStayWithin : ℕ → List ℤ → List ℤ → ℕ → ℕ → ℤ → Type 0
SumsStayWithin maximum sums frames channels channel weight =
    (i : ℕ) → i < length sums → unsigned_abs (sample_at frames channels channel i) ≤ 2 ^ 31 → unsigned_abs (slice_index_or sums i (pos 0) +ℤ (sample_at frames channels channel i *ℤ weight)) ≤ maximum

-- to each sum the sample of that channel was added, times the weight
abbrev pub AddsChannel : List ℤ → List ℤ → List ℤ → ℕ → ℕ → ℤ → Type 0
AddsChannel old new frames channels channel weight = (i : ℕ) → i < length old → slice_index_or new i (pos 0) ≡ slice_index_or old i (pos 0) +ℤ (sample_at frames channels channel i *ℤ weight)
