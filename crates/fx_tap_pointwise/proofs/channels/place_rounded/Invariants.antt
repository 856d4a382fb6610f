use Rattle.std.proofs.Common.{◌≡◌, ◌<◌, ◌≤◌, ◌+◌, ◌*◌, ℕ, pos, slice_index_or}
use Rattle.fx_frame_base.specs.Lists.{IsOtherPlace, tabulate}
use Rattle.fx_frame_base.specs.Rounded.{clips_rounded}
use Rattle.fx_tap_pointwise.proofs.channels.place_rounded.Given as goal

abbrev pub invariant-frames : goal.invariant-frames
invariant-frames g l = record {
  read_is : l.read ≡ l._turn * l.shape.channels + l.channel;
  at_is : l.at ≡ l._turn * l.place.channels + l.place.channel;
  put : (i : ℕ) → i < l._turn → slice_index_or l.to (i * l.place.channels + l.place.channel) (pos 0) ≡ (g.S.Sampling.rounded l.sampling (slice_index_or l.from (i * l.shape.channels + l.channel) (pos 0))).0;
  others : (k : ℕ) → IsOtherPlace l.place.channels l.place.channel l.shape.count k → slice_index_or l.to k (pos 0) ≡ slice_index_or l.fn.to k (pos 0);
  counted : l.clips ≡ clips_rounded (tabulate (λ i. g.S.Sampling.rounded l.sampling (slice_index_or l.from (i * l.shape.channels + l.channel) (pos 0))) 0 l._turn);
  bound : l.clips ≤ l._turn;
}
