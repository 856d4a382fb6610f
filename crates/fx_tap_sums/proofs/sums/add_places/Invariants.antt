use Rattle.std.proofs.Common.{◌≡◌, ◌<◌, ◌≤◌, ℕ, pos, ◌+ℤ◌, ◌*ℤ◌, length, slice_index_or}
use Rattle.fx_tap_sums.proofs.sums.add_places.Given as goal

-- the channels so far are added, and the others are as they were
abbrev pub invariant-loop-channel : goal.invariant-loop-channel
invariant-loop-channel g l = record {
  size : length l.sums ≡ 16;
  added : (k : ℕ) → k < l.channel → slice_index_or l.sums k (pos 0) ≡ slice_index_or l.fn.sums k (pos 0) +ℤ (l.fn.gain *ℤ slice_index_or (g.P.Places.list l.fn.samples) k (pos 0));
  left : (k : ℕ) → l.channel ≤ k → slice_index_or l.sums k (pos 0) ≡ slice_index_or l.fn.sums k (pos 0);
}
