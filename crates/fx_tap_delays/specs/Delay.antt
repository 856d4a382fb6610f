-- The effect `delay` (sox(1), EFFECTS, delay): each channel is delayed by its own number of frames.
use Rattle.std.specs.Prelude.{ℕ, ◌+◌, ◌-◌, List, ◌++◌, length, replicate, slice_index}
use Rattle.fx_fixed.specs.Extents.{largest}
use Rattle.fx_frame_base.specs.Frame.{Samples}
use Rattle.fx_frame_base.specs.Stage.{Given, StageKind}
use Rattle.fx_frame_base.specs.Lists.{tabulate}
use Rattle.fx_frame_base.specs.Given.{plain}
use Rattle.fx_frame.specs.History.{History, sample_before}
use Rattle.fx_frame.specs.Kinds.{tap_kind}

-- the frame whose channel k is delayed by delay k
abbrev pub delayed_frame : List ℕ → History → Samples
delayed_frame delays history = tabulate (λ k. history (slice_index delays k) k) 0 (length delays)

-- each channel delayed by its own delay
abbrev pub delayed : List ℕ → List Samples → List Given
delayed delays x = tabulate (λ n. plain (delayed_frame delays (sample_before x n))) 0 (length x + largest delays)

-- the delay of each of `channels` channels: those that are given, and then 0
abbrev pub every_delay : ℕ → List ℕ → List ℕ
every_delay channels delays = delays ++ replicate (channels - length delays) 0

-- what it takes and gives, and when each frame is due: a delay for each channel
abbrev pub delay_kind : List ℕ → StageKind
delay_kind delays = tap_kind (length delays) (largest delays)
