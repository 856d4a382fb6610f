use Rattle.std.proofs.Common.{rules, ◌≡◌, ◌++◌, ◌∙◌, false, drop, length, take, sym, ap, arith, None}
use Rattle.std.proofs.lemmas.List.{length-take-le, take_at}
use Rattle.fx_frame_base.proofs.Flags.{none-is}
use Rattle.fx_tap_pointwise.proofs.Blocks.{frame-passed, is-even}
use Rattle.fx_tap_pointwise.proofs.mapped.MappedFeeds.pass_places.Goals as goal

pub returns-clause-passed : goal.returns-clause-passed
returns-clause-passed g c =
    let m = g.M.Mapping in
    let s = c.self.inside in
    let none : s.core.pending ≡ None = none-is s.core.pending (rw (← c.self.view_is) at c.requires.dry) in
    let running : s.core.ended ≡ false = rw (← c.self.view_is) at c.requires.not_ended in
    let outputs = c.out_channels-outputs.result in
    let made = c.map_into-clips.new.out in
    let sixteen : length c.args.places.now ≡ 16 = search rules in
    let size : length made ≡ outputs = c.map_into-clips.auto.out ∙ length-take-le outputs c.args.places.now (omega (arith, sixteen, c.out_channels-outputs.ensures.frame.1)) in
    let front : take outputs (made ++ drop outputs c.args.places.now) ≡ made = take_at made (drop outputs c.args.places.now) outputs size in
    rw (← c.self.view_is, front, c.pass.ensures)
    (frame-passed m.inputs m.outputs m.mapped s.mapping s.core (take c.args.channels.now c.args.places.now) made c.map_into-clips.result
    (is-even m.outputs (record { mapping = s.mapping; core = s.core }) c.self.invariant none running) c.map_into-clips.ensures.frame c.map_into-clips.ensures.clips (sym (ap length c.map_into-clips.ensures.frame) ∙ size ∙ c.out_channels-outputs.ensures.value))
