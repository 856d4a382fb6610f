use Rattle.std.proofs.Common.{◌≡◌, ◌<◌, ◌≤◌, ◌+◌, ◌*◌, ◌^◌, ◌++◌, ℕ, pos, ◌+ℤ◌, length, take, drop, replicate, slice_index_or, unsigned_abs}
use Rattle.fx_fixed.specs.declared.gains.TheConstants.{UNIT}
use Rattle.fx_frame_line.specs.Line.{channel_of}
use Rattle.fx_tap_delays.specs.Echos.{decays}
use Rattle.fx_tap_delays.specs.EchosState.{line_outputs, lines_after}
use Rattle.fx_tap_sums.specs.Products.{sum_of_products}
use Rattle.fx_tap_delays.proofs.EchosSeries.{Small, up_to}
use Rattle.fx_tap_delays.proofs.echos.pass.Given as goal

-- the frame went through the lines so far
abbrev pub invariant-lines : goal.invariant-lines
invariant-lines l = record {
  many : length l.lines ≡ length l.fn.lines;
  left : drop l.place l.lines ≡ drop l.place l.fn.lines;
  lines : take l.place l.lines ++ lines_after l.channels (drop l.place l.fn.lines) l.frame l.before ≡ lines_after l.channels l.fn.lines l.frame (replicate l.channels (pos 0));
  before : Small (l.place * 2 ^ 31) l.before;
  sums : (k : ℕ) → k < l.channels → slice_index_or l.sums k (pos 0) +ℤ sum_of_products (drop l.place (decays l.taps)) (channel_of (line_outputs l.channels (drop l.place l.fn.lines) l.frame l.before) k (pos 0)) ≡ slice_index_or l.fn.sums k (pos 0) +ℤ sum_of_products (decays l.taps) (channel_of (line_outputs l.channels l.fn.lines l.frame (replicate l.channels (pos 0))) k (pos 0));
  bound : (k : ℕ) → unsigned_abs (slice_index_or l.sums k (pos 0)) ≤ (1 + up_to l.place) * (UNIT * 2 ^ 31);
}
