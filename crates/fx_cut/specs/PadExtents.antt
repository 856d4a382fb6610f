-- How far the arguments of `pad` reach from the end of a sound, and how much silence they are (this project's profile).
-- A pad is a length and a position.
use Rattle.std.specs.Prelude.{ℕ}
use Rattle.fx_fixed.specs.Extents.{end_distance}
use Rattle.fx_fixed.specs.declared.positions.At.{At}

-- how far a pad is from the end, where its position is counted from there
abbrev pub pad_distance : ℕ × At → ℕ
pad_distance pad = end_distance pad.1

-- how many frames of silence a pad is
abbrev pub pad_length : ℕ × At → ℕ
pad_length pad = pad.0
