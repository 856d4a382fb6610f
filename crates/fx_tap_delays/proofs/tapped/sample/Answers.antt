use Rattle.std.proofs.Common.{rules, ◌≡◌, ◌<◌, ◌∙◌, arith, to_z, of_z, w32}
use Rattle.fx_frame.proofs.DelayLaws.{sample-back}
use Rattle.fx_tap_delays.proofs.tapped.sample.Goals as goal

pub returns : goal.returns
returns c =
    let some : 0 < c.args.delay = omega arith in
    let e : to_z w32 (of_z w32 c.sample_back.result) ≡ c.sample_back.result = search rules in
    e ∙ c.sample_back.ensures ∙ sample-back c.args.line.now.items c.args.frame.now c.args.delay c.args.channel some
