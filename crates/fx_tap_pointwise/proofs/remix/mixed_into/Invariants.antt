use Rattle.std.proofs.Common.{◌≡◌, ◌≤◌, map, take}
use Rattle.fx_tap_pointwise.specs.Remix.{remixed_sample}
use Rattle.fx_frame_base.specs.Rounded.{clips_rounded, samples_of}
use Rattle.fx_tap_pointwise.proofs.remix.mixed_into.Given as goal

-- the output channels so far
abbrev pub invariant-mixes : goal.invariant-mixes
invariant-mixes l = record {
  done : take l.channel l.out ≡ samples_of (map (λ o. remixed_sample o l.frame) (take l.channel l.mixes));
  counted : l.clips ≡ clips_rounded (map (λ o. remixed_sample o l.frame) (take l.channel l.mixes));
  bound : l.clips ≤ l.channel;
}
