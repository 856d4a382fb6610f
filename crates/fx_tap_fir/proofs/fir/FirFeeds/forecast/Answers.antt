use Rattle.std.proofs.Common.{◌≡◌, ◌≤◌, ap, length, refl, reverse, arith}
use Rattle.std.proofs.lemmas.List.{length-reverse}
use Rattle.fx_frame_base.proofs.Forecasts.{IsForecast-endless}
use Rattle.fx_tap_fir.specs.Fir.{centre}
use Rattle.fx_tap_fir.proofs.fir.FirFeeds.forecast.Goals as goal

pub returns : goal.returns
returns c =
    let s = c.self.inside in
    let late : centre (length (reverse s.kernel)) ≡ centre (length s.kernel) = ap centre (length-reverse s.kernel) in
    let taken = rw c.taken.ensures at c.if-taken-centre_of.false in
    let full : centre (length s.kernel) ≤ s.core.taken = omega (arith, taken, c.centre_of.ensures, c.len.ensures) in
    rw (c.endless-2.ensures, ← c.self.view_is) (IsForecast-endless _ _ _ refl (λ n bound. omega (arith, late, full)))
