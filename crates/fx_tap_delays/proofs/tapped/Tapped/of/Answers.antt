use Rattle.std.proofs.Common.{refl}
use Rattle.fx_frame.proofs.TapLaws.{rest_unchanged-all}
use Rattle.fx_tap_delays.proofs.tapped.Tapped.of.Goals as goal

pub returns : goal.returns
returns g c =
    rw (c.new-2.ensures, c.in_ok-line.ensures, c.channels.ensures.value, c.requires.reach)
    (record { recipe = refl; rest = λ z. rest_unchanged-all g.T.Tapping.taps g.met.T.Tapping.near c.args.arguments z; counts = refl; dry = refl; stored = refl; state_counters = refl })
