use Rattle.std.proofs.Common.{◌≡◌, ◌<◌, ◌≤◌, ◌+◌, ◌*◌, ◌^◌, ◌++◌, ℕ, pos, ◌+ℤ◌, ◌*ℤ◌, length, take, drop, replicate, slice_index_or, unsigned_abs}
use Rattle.fx_frame_line.specs.Line.{channel_of}
use Rattle.fx_frame_base.specs.Lists.{pieces}
use Rattle.fx_tap_sums.specs.Products.{sum_of_products}
use Rattle.fx_tap_delays.proofs.EchosPieces.{column, series_after, series_outputs}
use Rattle.fx_tap_delays.proofs.echos.pass_piece.Given as goal

-- the frames went through the lines so far
abbrev pub invariant-lines : goal.invariant-lines
invariant-lines g l = record {
  many : length l.lines ≡ length l.fn.lines;
  left : drop l.place l.lines ≡ drop l.place l.fn.lines;
  lines : take l.place l.lines ++ series_after l.channels (drop l.place l.fn.lines) (pieces l.channels l.count l.frames) (pieces l.channels l.count l.before) ≡ series_after l.channels l.fn.lines (pieces l.channels l.count l.frames) (replicate l.count (replicate l.channels (pos 0)));
  before : (k : ℕ) → unsigned_abs (slice_index_or l.before k (pos 0)) ≤ l.place * 2 ^ 31;
  sums : (i k : ℕ) → i < l.count → k < l.channels → slice_index_or l.sums (i * l.channels + k) (pos 0) +ℤ sum_of_products (drop (l.place + 1) l.small.weights) (channel_of (column i (series_outputs l.channels (drop l.place l.fn.lines) (pieces l.channels l.count l.frames) (pieces l.channels l.count l.before))) k (pos 0))
      ≡ (slice_index_or l.small.weights 0 (pos 0) *ℤ slice_index_or l.frames (i * l.channels + k) (pos 0)) +ℤ sum_of_products (drop 1 l.small.weights) (channel_of (column i (series_outputs l.channels l.fn.lines (pieces l.channels l.count l.frames) (replicate l.count (replicate l.channels (pos 0))))) k (pos 0));
  bound : (k : ℕ) → unsigned_abs (slice_index_or l.sums k (pos 0)) ≤ (l.place + 1) * 2 ^ 58;
}
