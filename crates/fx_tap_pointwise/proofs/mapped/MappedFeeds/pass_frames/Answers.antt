use Rattle.std.proofs.Common.{◌≡◌, ◌*◌, false, length, arith, None}
use Rattle.fx_frame_base.specs.Lists.{pieces}
use Rattle.fx_frame_base.proofs.Pieces.{length-pieces}
use Rattle.fx_frame_base.proofs.Flags.{none-is}
use Rattle.fx_tap_pointwise.proofs.Blocks.{dry-through}
use Rattle.fx_frame.proofs.SamplePieces.{pieces-sides}
use Rattle.fx_tap_pointwise.proofs.mapped.MappedFeeds.pass_frames.Goals as goal

pub returns-clause-through : goal.returns-clause-through
returns-clause-through g c =
    let m = g.M.Mapping in
    let s = c.self.inside in
    let none : s.core.pending ≡ None = none-is s.core.pending (rw (← c.self.view_is) at c.requires.dry) in
    let running : s.core.ended ≡ false = rw (← c.self.view_is) at c.requires.not_ended in
    let alike : m.outputs s.mapping ≡ m.inputs s.mapping = rw (← c.self.view_is) at c.requires.same_channels in
    let all : length c.args.samples.now ≡ c.args.count * m.inputs s.mapping = rw (← c.self.view_is) at c.requires.samples in
    let sides = pieces-sides (m.inputs s.mapping) c.args.count c.map_many_over-clips.new.samples (omega (arith, all, c.map_many_over-clips.auto.samples)) in
    rw (← c.self.view_is, c.pass.ensures)
    (dry-through m.inputs m.outputs m.mapped (record { mapping = s.mapping; core = s.core }) c.args.count c.map_many_over-clips.result
    (pieces (m.inputs s.mapping) c.args.count c.args.samples.now) (pieces (m.inputs s.mapping) c.args.count c.map_many_over-clips.new.samples)
    c.self.invariant none running (length-pieces (m.inputs s.mapping) c.args.count c.args.samples.now) (rw alike sides) c.map_many_over-clips.ensures.frames c.map_many_over-clips.ensures.clips)
