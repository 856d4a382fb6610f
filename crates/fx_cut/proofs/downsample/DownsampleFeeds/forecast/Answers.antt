use Rattle.std.proofs.Common.{refl}
use Rattle.fx_frame_base.proofs.Forecasts.{IsForecast-none}
use Rattle.fx_cut.proofs.downsample.DownsampleFeeds.forecast.Goals as goal

pub returns : goal.returns
returns c = rw c.endless.ensures (IsForecast-none _ _ refl)
