use Rattle.std.proofs.Common.{◌≡◌, ◌<◌, ◌≤◌, ◌+◌, ◌*◌, [], ℕ, pos, slice_index_or}
use Rattle.fx_frame_base.specs.Lists.{IsOtherPlace, pieces, tabulate}
use Rattle.fx_tap_pointwise.specs.Remix.{remixed_sample}
use Rattle.fx_frame_base.specs.Rounded.{clips_rounded}
use Rattle.fx_tap_pointwise.proofs.remix.Mix.channel_by_frames.Given as goal

abbrev pub invariant-frames : goal.invariant-frames
invariant-frames l = record {
  from_is : l.from ≡ l._turn * l.shape.channels;
  at_is : l.at ≡ l._turn * l.place.channels + l.place.channel;
  put : (i : ℕ) → i < l._turn → slice_index_or l.out (i * l.place.channels + l.place.channel) (pos 0) ≡ (remixed_sample l.self (slice_index_or (pieces l.shape.channels l.shape.count l.frames) i [])).0;
  others : (k : ℕ) → IsOtherPlace l.place.channels l.place.channel l.shape.count k → slice_index_or l.out k (pos 0) ≡ slice_index_or l.fn.out k (pos 0);
  counted : l.clips ≡ clips_rounded (tabulate (λ i. remixed_sample l.self (slice_index_or (pieces l.shape.channels l.shape.count l.frames) i [])) 0 l._turn);
  bound : l.clips ≤ l._turn;
}
