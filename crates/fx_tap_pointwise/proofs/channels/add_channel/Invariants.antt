use Rattle.std.proofs.Common.{◌≡◌, ◌<◌, ◌≤◌, ◌+◌, ◌*◌, ◌^◌, ℕ, pos, ◌+ℤ◌, ◌*ℤ◌, slice_index_or, unsigned_abs}
use Rattle.fx_tap_pointwise.proofs.channels.add_channel.Given as goal

-- the frames so far are added, and the other sums are as they were
abbrev pub invariant-frames : goal.invariant-frames
invariant-frames l = record {
  at_is : l.at ≡ l.place * l.channels + l.channel;
  added : (i : ℕ) → i < l.place → slice_index_or l.sums i (pos 0) ≡ slice_index_or l.fn.sums i (pos 0) +ℤ (slice_index_or l.frames (i * l.channels + l.channel) (pos 0) *ℤ l.fn.weight);
  seen : (i : ℕ) → i < l.place → unsigned_abs (slice_index_or l.frames (i * l.channels + l.channel) (pos 0)) ≤ 2 ^ 31;
  left : (i : ℕ) → l.place ≤ i → slice_index_or l.sums i (pos 0) ≡ slice_index_or l.fn.sums i (pos 0);
}
