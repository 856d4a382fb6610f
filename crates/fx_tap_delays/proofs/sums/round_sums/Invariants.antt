use Rattle.std.proofs.Common.{◌≡◌, ◌≤◌, map, take}
use Rattle.fx_fixed.specs.Rounding.{rounding}
use Rattle.fx_frame_base.specs.Rounded.{clips_rounded, samples_of}
use Rattle.fx_tap_delays.proofs.sums.round_sums.Given as goal

-- the sums so far are rounded, and their clips counted
abbrev pub invariant-sums : goal.invariant-sums
invariant-sums l = record {
  done : take l.place l.out ≡ samples_of (map (λ z. rounding z l.denominator) (take l.place l.sums));
  counted : l.clips ≡ clips_rounded (map (λ z. rounding z l.denominator) (take l.place l.sums));
  bound : l.clips ≤ l.place;
}
