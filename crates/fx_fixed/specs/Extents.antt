-- How far positions are from the end of a sound (this project's profile).
use Rattle.std.specs.Prelude.{ℕ, max, List, [], ◌∷◌}
use Rattle.fx_fixed.specs.declared.positions.At.{At}
use Rattle.fx_fixed.specs.declared.positions.At.TheVariants.{Start, End}

-- the greatest of these numbers, or 0
abbrev pub largest : List ℕ → ℕ
largest [] = 0
largest (n ∷ ns) = max n (largest ns)

-- the distance of a position from the end, where it is counted from there
abbrev pub end_distance : At → ℕ
end_distance (Start frames) = 0
end_distance (End frames) = frames
