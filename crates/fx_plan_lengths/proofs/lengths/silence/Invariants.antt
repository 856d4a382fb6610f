use Rattle.std.proofs.Common.{◌≡◌, ◌-◌, ◌^◌, filter, min, sum_by, take}
use Rattle.fx_cut.specs.Pad.{is_inside}
use Rattle.fx_cut.specs.PadExtents.{pad_length}
use Rattle.fx_plan_lengths.proofs.lengths.silence.Given as goal

abbrev pub invariant-loop-length : goal.invariant-loop-length
invariant-loop-length l = l.silence ≡ min (sum_by pad_length (filter (is_inside l.frames) (take l.length-index l.pads))) (2 ^ 64 - 1)
