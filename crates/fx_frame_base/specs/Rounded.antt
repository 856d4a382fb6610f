-- Samples that were rounded, one for each channel, each with whether it was clipped (this project's profile).
use Rattle.std.specs.Prelude.{ℕ, ℤ, List, Bool, false, map, count_by}

-- the frame of rounded samples
abbrev pub samples_of : List (ℤ × Bool) → List ℤ
samples_of rounds = map (λ r. r.0) rounds

-- how many of them were clipped
abbrev pub clips_rounded : List (ℤ × Bool) → ℕ
clips_rounded rounds = count_by (λ r. r.1) rounds

-- a sample that was not clipped
abbrev pub unclipped : ℤ → ℤ × Bool
unclipped sample = (sample, false)
