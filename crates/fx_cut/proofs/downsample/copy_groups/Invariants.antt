use Rattle.std.proofs.Common.{◌≡◌, ◌*◌, drop}
use Rattle.fx_frame_base.specs.Lists.{pieces}
use Rattle.fx_cut.specs.Strides.{firsts}
use Rattle.fx_cut.proofs.downsample.copy_groups.Given as goal

abbrev pub invariant-groups : goal.invariant-groups
invariant-groups l = record {
  read : l.read ≡ l._group * (l.step * l.channels);
  written : l.written ≡ l._group * l.channels;
  frames : pieces l.channels l._group l.output ≡ firsts l.channels l.step l._group l.input;
  rest_unchanged : drop l.written l.output ≡ drop l.written l.fn.output;
}
