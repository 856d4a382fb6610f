use Rattle.std.proofs.Common.{◌∙◌, ap, length}
use Rattle.fx_tap_delays.proofs.EchosSeries.{small-frame}
use Rattle.fx_tap_delays.proofs.EchosLaws.{IsEchos-taken, length-after}
use Rattle.fx_frame_base.proofs.Puts.{written_back}
use Rattle.fx_tap_delays.proofs.echos.EchosStage.take.Goals as goal

pub invariant_of-self : goal.invariant_of-self
invariant_of-self c =
    let s = c.self.inside in
    let series = rw c.deref_mut.ensures.value at c.echoed-out.ensures.lines in
    rw (written_back s.lines.items c.echoed-out.new.lines s.lines.len s.lines.ok.0 (ap length series ∙ length-after s.channels s.lines.items c.args.frame _), c.offer.ensures) (
      (IsEchos-taken _ c.echoed-out.new.lines c.args.frame c.echoed-out.result.0 c.echoed-out.result.1 c.self.invariant.0 (rw (← c.self.view_is) at c.requires.dry) (rw (← c.self.view_is) at c.requires.not_ended) (rw (← c.self.view_is) at c.requires.below_limit)
          series (small-frame c.args.frame c.channels-count.ensures.frame.fits) c.echoed-out.ensures.bound c.echoed-out.ensures.fits.0 c.echoed-out.ensures.fits.1),
      c.self.invariant.1,
    )
