-- Frames of a list of samples by strides (this project's profile).
use Rattle.std.specs.Prelude.{ℕ, ℤ, zero, suc, ◌*◌, ◌-◌, List, [], ◌∷◌, ◌++◌, take, drop, replicate}
use Rattle.fx_frame_base.specs.Frame.{Samples, silence}

-- the first frames, of `size` samples, of groups of `step` samples
abbrev pub firsts : {X : Type 0} → ℕ → ℕ → ℕ → List X → List (List X)
firsts size step zero xs = []
firsts size step (suc count) xs = take size xs ∷ firsts size step count (drop (step * size) xs)

-- the frames, of `size` samples, of a list of samples, each followed by as many silent ones as a factor asks
abbrev pub spread : ℕ → ℕ → ℕ → List ℤ → List Samples
spread size factor zero xs = []
spread size factor (suc count) xs = (take size xs ∷ replicate (factor - 1) (silence size)) ++ spread size factor count (drop size xs)
