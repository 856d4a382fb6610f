use Rattle.std.proofs.Common.{◌≡◌, ◌<◌, ◌+◌, ◌*◌, ℕ, pos, slice_index_or, FitsSigned}
use Rattle.fx_frame_base.specs.Lists.{IsOtherPlace}
use Rattle.std.specs.Int.{w32}
use Rattle.fx_tap_pointwise.proofs.channels.place_channel.Given as goal

abbrev pub invariant-frames : goal.invariant-frames
invariant-frames l = record {
  read_is : l.read ≡ l._turn * l.shape.channels + l.channel;
  at_is : l.at ≡ l._turn * l.place.channels + l.place.channel;
  put : (i : ℕ) → i < l._turn → slice_index_or l.to (i * l.place.channels + l.place.channel) (pos 0) ≡ slice_index_or l.from (i * l.shape.channels + l.channel) (pos 0);
  others : (k : ℕ) → IsOtherPlace l.place.channels l.place.channel l.shape.count k → slice_index_or l.to k (pos 0) ≡ slice_index_or l.fn.to k (pos 0);
  samples : (i : ℕ) → i < l._turn → FitsSigned w32 (slice_index_or l.from (i * l.shape.channels + l.channel) (pos 0));
}
