use Rattle.std.proofs.Common.{rules, ◌≡◌, ◌<◌, ◌∙◌, length, of_z, sym, to_z, arith, pos}
use Rattle.std.specs.Int.{w32}
use Rattle.fx_frame_base.proofs.Puts.{put-one}
use Rattle.fx_frame_base.proofs.feed.put_frame.Goals as goal

pub returns-then-channels-eq1 : goal.returns-then-channels-eq1
returns-then-channels-eq1 c =
    let one : length c.args.frame.now ≡ 1 = sym c.channels.ensures.count ∙ c.if-channels-eq1.true in
    let free : c.args.at < length c.args.output.now = omega (arith, c.requires) in
    let same : to_z w32 (of_z w32 c.get.result) ≡ c.get.result = search rules in
    rw same (put-one c.args.frame.now c.args.output.now c.args.at c.get.result (pos 0) one c.get.ensures free)
