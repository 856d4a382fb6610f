use Rattle.std.proofs.Common.{◌≡◌, ◌<◌, ◌≤◌, ◌+◌, ◌*◌, ℕ, pos, length, slice_index_or}
use Rattle.fx_fixed.specs.Rounding.{rounding}
use Rattle.fx_frame_base.specs.Lists.{IsOtherPlace, tabulate}
use Rattle.fx_frame_base.specs.Rounded.{clips_rounded}
use Rattle.fx_fixed.specs.declared.gains.TheConstants.{UNIT}
use Rattle.fx_tap_fir.specs.Split.{joined_split}
use Rattle.fx_tap_fir.proofs.split.round_joined.Given as goal

abbrev pub invariant-frames : goal.invariant-frames
invariant-frames l = record {
  at_is : l.at ≡ l.place * l.channels + l.channel;
  put : (i : ℕ) → i < l.place → slice_index_or l.out (i * l.channels + l.channel) (pos 0) ≡ (rounding (joined_split (slice_index_or l.high i (pos 0)) (slice_index_or l.low i (pos 0))) UNIT).0;
  others : (k : ℕ) → IsOtherPlace l.channels l.channel (length l.low) k → slice_index_or l.out k (pos 0) ≡ slice_index_or l.fn.out k (pos 0);
  counted : l.clips ≡ clips_rounded (tabulate (λ i. rounding (joined_split (slice_index_or l.high i (pos 0)) (slice_index_or l.low i (pos 0))) UNIT) 0 l.place);
  bound : l.clips ≤ l.place;
}
