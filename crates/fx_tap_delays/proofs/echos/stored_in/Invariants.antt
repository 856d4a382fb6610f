use Rattle.std.proofs.Common.{◌≡◌, drop, slice_get}
use Rattle.fx_tap_delays.specs.EchosState.{frames_of_lines}
use Rattle.fx_tap_delays.proofs.echos.stored_in.Given as goal

abbrev pub invariant-lines : goal.invariant-lines
invariant-lines l = slice_get (frames_of_lines (drop l.line-index l.lines)) l.place ≡ slice_get (frames_of_lines l.lines) l.fn.j
