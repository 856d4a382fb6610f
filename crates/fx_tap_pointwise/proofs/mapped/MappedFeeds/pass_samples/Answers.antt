use Rattle.std.proofs.Common.{◌≡◌, false, length, sym, ap, ◌∙◌, None}
use Rattle.fx_frame_base.proofs.Flags.{none-is}
use Rattle.fx_tap_pointwise.proofs.Blocks.{frame-passed, is-even}
use Rattle.fx_tap_pointwise.proofs.mapped.MappedFeeds.pass_samples.Goals as goal

pub returns-clause-passed : goal.returns-clause-passed
returns-clause-passed g c =
    let m = g.M.Mapping in
    let s = c.self.inside in
    let none : s.core.pending ≡ None = none-is s.core.pending (rw (← c.self.view_is) at c.requires.dry) in
    let running : s.core.ended ≡ false = rw (← c.self.view_is) at c.requires.not_ended in
    let width = rw (← c.self.view_is) at c.requires.channels in
    let alike = rw (← c.self.view_is) at c.requires.same_channels in
    let sides : length c.args.samples.now ≡ m.outputs s.mapping = width ∙ sym alike in
    rw (← c.self.view_is, c.pass.ensures)
    (frame-passed m.inputs m.outputs m.mapped s.mapping s.core c.args.samples.now c.map_over-clips.new.samples c.map_over-clips.result
    (is-even m.outputs (record { mapping = s.mapping; core = s.core }) c.self.invariant none running) c.map_over-clips.ensures.frame c.map_over-clips.ensures.clips (sym (ap length c.map_over-clips.ensures.frame) ∙ c.map_over-clips.auto.samples ∙ sides))
