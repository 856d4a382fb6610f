use Rattle.std.proofs.Common.{◌≡◌, ◌<◌, ◌+◌, ◌*◌, ◌+ℤ◌, false, ℕ, pos, slice_index_or}
use Rattle.fx_frame_base.specs.Lists.{IsOtherPlace}
use Rattle.fx_fixed.specs.Rounding.{rounding}
use Rattle.fx_tap_pointwise.proofs.channels.place_mean.Given as goal

abbrev pub invariant-frames : goal.invariant-frames
invariant-frames l = record {
  left_is : l.left ≡ l._turn * l.shape.channels + l.first;
  right_is : l.right ≡ l._turn * l.shape.channels + l.second;
  at_is : l.at ≡ l._turn * l.place.channels + l.place.channel;
  put : (i : ℕ) → i < l._turn → slice_index_or l.to (i * l.place.channels + l.place.channel) (pos 0) ≡ (rounding (slice_index_or l.from (i * l.shape.channels + l.first) (pos 0) +ℤ slice_index_or l.from (i * l.shape.channels + l.second) (pos 0)) 2).0;
  unclipped : (i : ℕ) → i < l._turn → (rounding (slice_index_or l.from (i * l.shape.channels + l.first) (pos 0) +ℤ slice_index_or l.from (i * l.shape.channels + l.second) (pos 0)) 2).1 ≡ false;
  others : (k : ℕ) → IsOtherPlace l.place.channels l.place.channel l.shape.count k → slice_index_or l.to k (pos 0) ≡ slice_index_or l.fn.to k (pos 0);
}
