-- How many frames effects in sequence hold, and how many frames can come out of them (this project's profile).
use Rattle.std.specs.Prelude.{ℕ, ◌+◌, ◌^◌, nat_lt, Bool, List, [], ◌∷◌, sum, sum_by}
use Rattle.std.specs.List.{list_any}
use Rattle.fx_plan_effects.specs.Effects.{Act}
use Rattle.fx_plan_effects.specs.Meanings.{line_of_act, max_of_act}

-- besides its line an effect holds one pending frame, and the chain one frame before the first effect
abbrev pub hold_of_act : Act → ℕ
hold_of_act act = line_of_act act + 1

abbrev pub hold_all : List Act → ℕ
hold_all acts = 1 + sum_by hold_of_act acts

-- n, and the maximum number of frames after each effect in turn
abbrev pub maxima : List Act → ℕ → List ℕ
maxima [] n = n ∷ []
maxima (act ∷ acts) n = n ∷ maxima acts (max_of_act act n)

-- how many frames the effects hand over for n at most
abbrev pub work_of : List Act → ℕ → ℕ
work_of acts n = sum (maxima acts n)

-- more than 2^56 frames
abbrev pub is_beyond_limit : ℕ → Bool
is_beyond_limit n = nat_lt (2 ^ 56) n

-- the sound of 2^40 frames could become too long somewhere
abbrev pub is_too_long : List Act → Bool
is_too_long acts = list_any is_beyond_limit (maxima acts (2 ^ 40))
