use Rattle.std.proofs.Common.{◌≡◌, ◌++◌, drop, map}
use Rattle.fx_frame_line.specs.Line.{empty}
use Rattle.fx_tap_delays.proofs.echos.empty_lines.Given as goal

abbrev pub invariant-taps : goal.invariant-taps
invariant-taps l = l.lines.items ++ map (λ e. empty l.channels e.0) (drop l.echo-index l.taps) ≡ map (λ e. empty l.channels e.0) l.taps
