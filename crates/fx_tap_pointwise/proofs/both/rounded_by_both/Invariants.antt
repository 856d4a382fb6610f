use Rattle.std.proofs.Common.{◌≡◌, ◌≤◌, FitsSigned, map, take}
use Rattle.std.specs.Int.{w32}
use Rattle.std.specs.List.{All}
use Rattle.fx_frame_base.specs.Rounded.{clips_rounded, samples_of}
use Rattle.fx_tap_pointwise.proofs.both.rounded_by_both.Given as goal

abbrev pub invariant-samples : goal.invariant-samples
invariant-samples g l = record {
  done : take l.place l.output ≡ samples_of (map (λ x. g.B.Sampling.rounded l.second (g.A.Sampling.rounded l.first x).0) (take l.place l.input));
  first_counted : l.first_clips ≡ clips_rounded (map (g.A.Sampling.rounded l.first) (take l.place l.input));
  second_counted : l.second_clips ≡ clips_rounded (map (λ x. g.B.Sampling.rounded l.second (g.A.Sampling.rounded l.first x).0) (take l.place l.input));
  first_bound : l.first_clips ≤ l.place;
  second_bound : l.second_clips ≤ l.place;
  fits : All (FitsSigned w32) (take l.place l.input);
}
