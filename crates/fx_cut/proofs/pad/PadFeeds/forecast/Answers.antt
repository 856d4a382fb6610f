use Rattle.std.proofs.Common.{rules, ◌≡◌, ◌∙◌, sym, refl, arith}
use Rattle.fx_frame_base.proofs.Forecasts.{IsForecast-endless}
use Rattle.fx_cut.proofs.PadMany.{due-clear_frames}
use Rattle.fx_cut.proofs.pad.PadFeeds.forecast.Goals as goal

pub returns : goal.returns
returns c =
    let clear_frames = rw (c.all.ensures, c.taken-taken.ensures) at c.clear_frames_from.ensures in
    let short : c.self.inside.line.capacity ≡ 0 = search rules in
    rw (c.endless-2.ensures, ← c.self.view_is) (IsForecast-endless _ _ _ refl
    (λ n bound. due-clear_frames c.self.inside.pads c.self.inside.core.taken n (sym c.self.invariant.capacity ∙ short) (λ i h. clear_frames i (omega arith))))
