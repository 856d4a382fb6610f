use Rattle.std.proofs.Common.{◌≡◌, ◌<◌, ◌≤◌, ◌+◌, ◌*◌, ℕ, pos, length, slice_index_or}
use Rattle.fx_fixed.specs.Rounding.{rounding}
use Rattle.fx_frame_base.specs.Lists.{IsOtherPlace, tabulate}
use Rattle.fx_frame_base.specs.Rounded.{clips_rounded}
use Rattle.fx_tap_sums.proofs.channels.round_channel.Given as goal

abbrev pub invariant-frames : goal.invariant-frames
invariant-frames l = record {
  at_is : l.at ≡ l.place * l.channels + l.channel;
  put : (i : ℕ) → i < l.place → slice_index_or l.out (i * l.channels + l.channel) (pos 0) ≡ (rounding (slice_index_or l.sums i (pos 0)) l.denominator).0;
  others : (k : ℕ) → IsOtherPlace l.channels l.channel (length l.sums) k → slice_index_or l.out k (pos 0) ≡ slice_index_or l.fn.out k (pos 0);
  counted : l.clips ≡ clips_rounded (tabulate (λ i. rounding (slice_index_or l.sums i (pos 0)) l.denominator) 0 l.place);
  bound : l.clips ≤ l.place;
}
