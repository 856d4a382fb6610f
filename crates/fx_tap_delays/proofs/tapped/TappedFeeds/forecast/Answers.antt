use Rattle.std.proofs.Common.{refl}
use Rattle.fx_frame_base.proofs.Forecasts.{IsForecast-endless}
use Rattle.fx_tap_delays.proofs.tapped.TappedFeeds.forecast.Goals as goal

pub returns : goal.returns
returns g c = rw c.endless.ensures (IsForecast-endless _ _ _ refl (λ n bound. refl))
