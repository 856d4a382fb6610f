use Rattle.std.proofs.Common.{◌≡◌, ◌++◌, length, take, drop}
use Rattle.fx_tap_delays.specs.EchosState.{frames_of_lines, AreEchoLines}
use Rattle.fx_tap_delays.specs.EchosStored.{ForAllSeries}
use Rattle.fx_tap_delays.proofs.series_lines.thawed_series.Given as goal

-- the lines so far are the only ones that hold the frames before the rest
abbrev pub invariant-taps : goal.invariant-taps
invariant-taps l = record {
  as_many : length l.lines.items ≡ l.place;
  lines_are : AreEchoLines l.channels l.came l.taps l.lines.items;
  cut : frames_of_lines l.lines.items ++ l.rest ≡ l.frames;
  only : ForAllSeries l.channels l.came l.taps l.frames (λ lines. (take l.place lines ≡ l.lines.items) × (frames_of_lines (drop l.place lines) ≡ l.rest));
}
