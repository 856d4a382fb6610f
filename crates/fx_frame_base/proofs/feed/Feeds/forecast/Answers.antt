use Rattle.fx_frame_base.specs.Stage.{kind}
use Rattle.fx_frame_base.proofs.Forecasts.{no-none_due, no-one_to_one}
use Rattle.fx_frame_base.proofs.feed.Feeds.forecast.Goals as goal

pub returns : goal.returns
returns g c =
    let acts = g.Self.Stage.acts in
    let k = kind acts c.args.self.now in
    let taken = (acts.counts c.args.self.now).taken in
    record { ahead = c.ahead_by_calls.ensures; one_to_one = no-one_to_one k taken; none_due = no-none_due k taken }
