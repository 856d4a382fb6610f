use Rattle.std.proofs.Common.{◌≡◌, ◌*◌, drop, map, FitsSigned}
use Rattle.std.specs.Int.{w32}
use Rattle.std.specs.List.{All}
use Rattle.fx_frame_base.specs.Lists.{pieces}
use Rattle.fx_cut.proofs.FadeWeights.{faded_along}
use Rattle.fx_frame_base.specs.Given.{plain}
use Rattle.fx_cut.proofs.fade.PreparedFadeSelection.select_many.Given as goal

-- so many frames are weighed, and those after them as they came
abbrev pub invariant-frames : goal.invariant-frames
invariant-frames l = record {
  at_is : l.at ≡ l.turn * l.channels;
  done : map plain (pieces l.channels l.turn l.samples) ≡ faded_along l.self.shape l.place (pieces l.channels l.turn l.fn.samples);
  fit : All (FitsSigned w32) l.samples;
  rest : drop l.at l.samples ≡ drop l.at l.fn.samples;
}
