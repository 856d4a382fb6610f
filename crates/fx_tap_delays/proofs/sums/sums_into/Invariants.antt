use Rattle.std.proofs.Common.{◌≡◌, ◌≤◌, pos, ◌*ℤ◌, take, ◌*◌, slice_index_or}
use Rattle.fx_fixed.specs.Rounding.{rounding}
use Rattle.fx_fixed.specs.declared.gains.TheConstants.{UNIT}
use Rattle.fx_frame_base.specs.Lists.{tabulate}
use Rattle.fx_frame_base.specs.Rounded.{clips_rounded, samples_of}
use Rattle.fx_tap_delays.proofs.sums.sums_into.Given as goal

-- the sums so far are rounded, and their clips counted
abbrev pub invariant-loop-channel : goal.invariant-loop-channel
invariant-loop-channel l = record {
  done : take l.channel l.out ≡ samples_of (tabulate (λ k. rounding (l.fn.gain *ℤ slice_index_or l.sums k (pos 0)) (UNIT * UNIT)) 0 l.channel);
  counted : l.clips ≡ clips_rounded (tabulate (λ k. rounding (l.fn.gain *ℤ slice_index_or l.sums k (pos 0)) (UNIT * UNIT)) 0 l.channel);
  bound : l.clips ≤ l.channel;
}
