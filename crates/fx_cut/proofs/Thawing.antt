-- What the numbers of a stage tell again.
use Rattle.std.proofs.Common.{◌≡◌, ◌-◌, List, ◌++◌, length, arith, length-append}
use Rattle.fx_frame_base.specs.Frame.{Samples}

-- the frames of the line are those that are stored and not pending
pub lined : (items pending_count : List Samples) → length (items ++ pending_count) - length pending_count ≡ length items
lined items pending_count = omega (arith, length-append items pending_count)
