use Rattle.std.proofs.Common.{◌≡◌, ◌≤◌, ◌++◌, reverse, take}
use Rattle.fx_tap_fir.specs.Fir.{filtered_sample}
use Rattle.fx_frame_base.specs.Lists.{tabulate}
use Rattle.fx_frame_base.specs.Rounded.{clips_rounded, samples_of}
use Rattle.fx_tap_fir.proofs.fir.filtered_into.Given as goal

-- the samples of the channels so far, and how many of them were clipped
abbrev pub invariant-channels : goal.invariant-channels
invariant-channels l = record {
  done : take l.channel l.out ≡ samples_of (tabulate (filtered_sample (reverse l.kernel) (l.line.items ++ l.latest) l.place) 0 l.channel);
  counted : l.clips ≡ clips_rounded (tabulate (filtered_sample (reverse l.kernel) (l.line.items ++ l.latest) l.place) 0 l.channel);
  bound : l.clips ≤ l.channel;
}
