use Rattle.std.proofs.Common.{ap, ◌*ℤ◌, arith}
use Rattle.fx_frame_base.proofs.ListPlaces.{zeros-sample}
use Rattle.fx_tap_delays.proofs.EchoLaws.{echo-first, echo-next, echo-last, sample-now}
use Rattle.fx_tap_delays.proofs.echo.PreparedEcho.sums.Goals as goal

pub taps-init : goal.taps-init
taps-init c =
    rw (← c.self.view_is)
    record {
      value = λ k l.
          let now = sample-now c.args.line.now.items c.args.frame k in
          echo-first _ _ _ _ _ (c.add_scaled.ensures.added k l) (zeros-sample 16 k) (ap (λ z. c.self.inside.gain_in *ℤ z) now);
      small = λ k.
          let bound = c.add_scaled.ensures.bound k in
          let none = zeros-sample 16 k in
          omega (arith, rw none at bound);
    }

pub taps-preserved : goal.taps-preserved
taps-preserved c =
    let value = rw (← c.self.view_is) at c.taps.invariant.value in
    let in_range = rw c.deref-echo-items.ensures.value at c.taps-test.true in
    let is = rw c.deref-echo-items.ensures.value at c.echo-item.is in
    rw (← c.self.view_is)
    record {
      value = λ k l. echo-next c.self.inside.taps.items c.taps.echo-index c.echo-item.result c.echo-item.result _ k _ _ _ in_range is (c.add_echo.ensures.added k l) (value k l);
      small = λ k.
          let bound = c.add_echo.ensures.bound k in
          let so = c.taps.invariant.small k in
          omega (arith, bound, so);
    }

pub returns-clause-value : goal.returns-clause-value
returns-clause-value c =
    let value = rw (← c.self.view_is) at c.taps.invariant.value in
    let over = rw c.deref-echo-items.ensures.value at c.taps-test.false in
    rw (← c.self.view_is) (λ k l. echo-last c.self.inside.taps.items c.taps.echo-index _ k _ _ over (value k l))
