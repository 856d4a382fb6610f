use Rattle.std.proofs.Common.{◌≡◌, take}
use Rattle.fx_frame.specs.Frozen.{line_of}
use Rattle.fx_frame.proofs.frozen.thawed_wide_line.Given as goal

-- the frames so far are in the line
abbrev pub invariant-frames : goal.invariant-frames
invariant-frames l = l.line ≡ line_of l.channels l.capacity (take l.frame-index l.frames)
