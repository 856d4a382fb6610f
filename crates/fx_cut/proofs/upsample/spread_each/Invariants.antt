use Rattle.std.proofs.Common.{◌≡◌, ◌*◌, drop}
use Rattle.fx_frame_base.specs.Lists.{pieces}
use Rattle.fx_cut.specs.Strides.{spread}
use Rattle.fx_cut.proofs.upsample.spread_each.Given as goal

abbrev pub invariant-frames : goal.invariant-frames
invariant-frames l = record {
  read : l.read ≡ l._frame * l.channels;
  written : l.written ≡ l._frame * (l.factor * l.channels);
  frames : pieces l.channels (l._frame * l.factor) l.output ≡ spread l.channels l.factor l._frame l.input;
  rest_unchanged : drop l.written l.output ≡ drop l.written l.fn.output;
}
