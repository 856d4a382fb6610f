use Rattle.std.proofs.Common.{◌≤◌, length, ap, ◌∙◌, arith}
use Rattle.fx_tap_pointwise.specs.RemixWords.{is_mix}
use Rattle.fx_tap_pointwise.proofs.RemixWords.{mix_fits}
use Rattle.fx_tap_pointwise.proofs.remix.words.read_spec.Goals as goal

pub returns-in-Ok-clause-fit : goal.returns-in-Ok-clause-fit
returns-in-Ok-clause-fit c =
    let sum = c.in_ok-sum.sum.items in
    let bound : length sum ≤ 64 = omega (arith, c.len.ensures) in
    let weighed = rw c.deref.ensures.value at c.in-Ok.ensures in
    ap (is_mix c.args.channels) weighed ∙ mix_fits c.args.channels c.args.mixing sum bound c.in_ok-sum.ensures.there
