-- The effect `downsample` (sox(1), EFFECTS, downsample): the first frame of every group of as many frames as the factor.
use Rattle.std.specs.Prelude.{ℕ, ◌*◌, ◌^◌, None, List, [], length, slice_index_or}
use Rattle.std.specs.Int.{div_ceil}
use Rattle.fx_frame_base.specs.Frame.{Samples}
use Rattle.fx_frame_base.specs.Stage.{Given, StageKind}
use Rattle.fx_frame_base.specs.Lists.{tabulate}
use Rattle.fx_frame_base.specs.Given.{plain}
use Rattle.fx_cut.specs.Factor.{FactorArguments}

-- the frames whose numbers are multiples of the factor
abbrev pub downsampled : ℕ → List Samples → List Given
downsampled factor x = tabulate (λ n. plain (slice_index_or x (n * factor) [])) 0 (div_ceil (length x) factor)

-- what it takes and gives, and when each frame is due
abbrev pub downsample_kind : FactorArguments → StageKind
downsample_kind r = record { inputs = r.channels; outputs = r.channels; line = 0; limit = 2 ^ 56; due = λ n. div_ceil n r.factor; maximum = λ n. div_ceil n r.factor; enough = None }

-- what it gives for a sound
abbrev pub downsample_meaning : FactorArguments → List Samples → List Given
downsample_meaning r x = downsampled r.factor x
