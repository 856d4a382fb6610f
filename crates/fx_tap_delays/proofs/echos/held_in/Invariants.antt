use Rattle.std.proofs.Common.{◌≡◌, ◌+◌, drop, length}
use Rattle.fx_tap_delays.specs.EchosState.{frames_of_lines}
use Rattle.fx_tap_delays.proofs.echos.held_in.Given as goal

abbrev pub invariant-lines : goal.invariant-lines
invariant-lines l = l.count + length (frames_of_lines (drop l.line-index l.lines)) ≡ length (frames_of_lines l.lines)
