-- The effect `upsample` (sox(1), EFFECTS, upsample): each frame is followed by silence.
use Rattle.std.specs.Prelude.{ℕ, ◌*◌, ◌/◌, ◌%◌, ◌^◌, None, List, [], length, slice_index_or, nat_eq, cond}
use Rattle.fx_frame_base.specs.Frame.{Samples, silence}
use Rattle.fx_frame_base.specs.Stage.{Given, StageKind}
use Rattle.fx_frame_base.specs.Lists.{tabulate}
use Rattle.fx_frame_base.specs.Given.{plain}
use Rattle.fx_cut.specs.Factor.{FactorArguments}

-- frame n of the upsampled list
abbrev pub upsampled_at : ℕ → ℕ → List Samples → ℕ → Samples
upsampled_at channels factor x n = cond (nat_eq (n % factor) 0) (slice_index_or x (n / factor) []) (silence channels)

-- each frame, followed by one silent frame less than the factor
abbrev pub upsampled : ℕ → ℕ → List Samples → List Given
upsampled channels factor x = tabulate (λ n. plain (upsampled_at channels factor x n)) 0 (length x * factor)

-- what it takes and gives, and when each frame is due
abbrev pub upsample_kind : FactorArguments → StageKind
upsample_kind r = record { inputs = r.channels; outputs = r.channels; line = 0; limit = 2 ^ 56 / r.factor; due = λ n. n * r.factor; maximum = λ n. n * r.factor; enough = None }

-- what it gives for a sound
abbrev pub upsample_meaning : FactorArguments → List Samples → List Given
upsample_meaning r x = upsampled r.channels r.factor x
