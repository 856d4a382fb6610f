use Rattle.std.proofs.Common.{◌≡◌, ◌≤◌, ◌*◌, drop}
use Rattle.fx_frame_base.specs.Lists.{pieces}
use Rattle.fx_frame.specs.Made.{clips_in, made_of}
use Rattle.fx_tap_pointwise.proofs.mapped.map_by_frames.Given as goal

abbrev pub invariant-frames : goal.invariant-frames
invariant-frames g l =
    let m = g.M.Mapping in
    record {
      read_is : l.read ≡ l._turn * m.inputs l.mapping;
      written_is : l.written ≡ l._turn * m.outputs l.mapping;
      done : pieces (m.outputs l.mapping) l._turn l.output ≡ made_of (m.mapped l.mapping) (pieces (m.inputs l.mapping) l._turn l.input);
      rest_unchanged : drop l.written l.output ≡ drop l.written l.fn.output;
      counted : l.clips ≡ clips_in (m.mapped l.mapping) (pieces (m.inputs l.mapping) l._turn l.input);
      bound : l.clips ≤ 16 * l._turn;
    }
