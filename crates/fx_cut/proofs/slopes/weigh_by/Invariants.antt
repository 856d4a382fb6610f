use Rattle.std.proofs.Common.{◌≡◌, map, take, drop, FitsSigned}
use Rattle.std.specs.Int.{w32}
use Rattle.std.specs.List.{All}
use Rattle.fx_cut.specs.Fade.{weighted}
use Rattle.fx_frame_base.specs.Rounded.{unclipped}
use Rattle.fx_cut.proofs.slopes.weigh_by.Given as goal

-- the samples so far are weighed, and the others as they came
abbrev pub invariant-samples : goal.invariant-samples
invariant-samples l = record {
  done : map (weighted (l.over, l.under)) (take l.place l.fn.samples) ≡ map unclipped (take l.place l.samples);
  fit : All (FitsSigned w32) l.samples;
  rest : drop l.place l.samples ≡ drop l.place l.fn.samples;
}
