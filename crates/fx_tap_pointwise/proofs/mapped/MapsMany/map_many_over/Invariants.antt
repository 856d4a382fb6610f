use Rattle.std.proofs.Common.{◌≡◌, ◌≤◌, ◌*◌, drop, length}
use Rattle.fx_frame_base.specs.Lists.{pieces}
use Rattle.fx_frame.specs.Made.{clips_in, made_of}
use Rattle.fx_tap_pointwise.proofs.mapped.MapsMany.map_many_over.Given as goal

abbrev pub invariant-frames : goal.invariant-frames
invariant-frames g l =
    let m = g.Self.Mapping in
    record {
      done : pieces (m.inputs l.self) l.turn l.samples ≡ made_of (m.mapped l.self) (pieces (m.inputs l.self) l.turn l.fn.samples);
      rest_unchanged : drop (l.turn * m.inputs l.self) l.samples ≡ drop (l.turn * m.inputs l.self) l.fn.samples;
      long : length l.samples ≡ length l.fn.samples;
      counted : l.clips ≡ clips_in (m.mapped l.self) (pieces (m.inputs l.self) l.turn l.fn.samples);
      bound : l.clips ≤ 16 * l.turn;
    }
