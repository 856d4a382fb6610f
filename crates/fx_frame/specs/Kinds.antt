-- What stages take and give, and when (this project's profile).
use Rattle.std.specs.Prelude.{ℕ, ◌+◌, None}
use Rattle.fx_frame_base.specs.Stage.{StageKind, max_taken}

-- a memoryless effect: each output frame depends on one input frame
abbrev pub map_kind : ℕ → ℕ → StageKind
map_kind inputs outputs = record { inputs = inputs; outputs = outputs; line = 0; limit = max_taken; due = λ n. n; maximum = λ n. n; enough = None }

-- an effect whose output frame depends on the input frame and on the `reach` frames before it
abbrev pub tap_kind : ℕ → ℕ → StageKind
tap_kind channels reach = record { inputs = channels; outputs = channels; line = reach; limit = max_taken; due = λ n. n; maximum = λ n. n + reach; enough = None }
