use Rattle.std.proofs.Common.{◌<◌, ◌≤◌, ◌+◌, ◌*◌, ◌+ℤ◌, ◌*ℤ◌, ◌∙◌, ap, arith, length, List, ℕ, ℤ, drop, pos, slice_index_or}
use Rattle.fx_frame_base.specs.Lists.{pieces}
use Rattle.fx_tap_delays.specs.EchoWeights.{weighed_taps}
use Rattle.fx_tap_delays.proofs.EchoLaws.{echo-first, echo-next, echo-last}
use Rattle.fx_tap_delays.proofs.EchoPieces.{coming-sample, earlier-sample}
use Rattle.fx_tap_delays.proofs.EchoWeights.{held-weight, weighed-at, weighed-length}
use Rattle.fx_tap_delays.specs.DelayExtents.{Tap}
use Rattle.fx_frame_base.proofs.ChannelPlaces.{within-frames}
use Rattle.fx_tap_delays.proofs.echo.PreparedEcho.add_piece.Goals as goal

pub taps-init : goal.taps-init
taps-init c =
    let ws : List ℤ = c.small.inside.weights in
    let weight = held-weight ws 0 c.small.invariant in
    let ch : ℕ = c.self.inside.channels in
    let n : ℕ = c.args.count in
    let long = rw (← c.self.view_is) at c.requires.sums in
    rw (← c.self.view_is, ← c.small.view_is)
    record {
      value = λ i k lt within.
          let at : i * ch + k < length c.args.sums.now = omega (arith, within-frames ch k i n within lt, long) in
          let now = coming-sample ch n i k c.args.line.now.items c.args.frames.now lt within in
          echo-first _ _ _ _ _ (rw weight at c.add_products.ensures.added (i * ch + k) at) (c.requires.empty (i * ch + k)) (ap (λ z. slice_index_or ws 0 (pos 0) *ℤ z) now);
      small = λ k.
          let bound = c.add_products.ensures.bound k in
          let none = c.requires.empty k in
          omega (arith, rw none at bound);
    }

pub taps-preserved : goal.taps-preserved
taps-preserved c =
    let es : List Tap = c.self.inside.taps.items in
    let ws : List ℤ = c.small.inside.weights in
    let p : ℕ = c.taps.place in
    let ch : ℕ = c.self.inside.channels in
    let n : ℕ = c.args.count in
    let value = rw (← c.self.view_is, ← c.small.view_is) at c.taps.invariant.value in
    let weight = held-weight ws (p + 1) c.small.invariant in
    let inside : p < length es = omega (arith, c.taps-test.true, c.len-place-end.ensures) in
    let in_range : p < length (weighed_taps es (drop 1 ws)) = rw (weighed-length es (drop 1 ws)) inside in
    let is = weighed-at es ws p c.index.result.now inside c.index.ensures in
    let late = rw (← c.index.ensures) at (rw (← c.self.view_is) at c.requires.late p c.index.result.now inside) in
    let same = rw (← c.self.view_is) at c.requires.channels in
    let long = rw (← c.self.view_is) at c.requires.sums in
    let coming : List (List ℤ) = pieces ch n c.args.frames.now in
    rw (← c.self.view_is, ← c.small.view_is)
    record {
      value = λ i k lt within.
          let at : i * ch + k < length c.taps.sums = omega (arith, within-frames ch k i n within lt, long, c.taps.auto.sums) in
          let copied = rw same at c.before_into.ensures in
          let early = earlier-sample c.args.line.now c.before_into.new.out coming ch c.index.result.now.0 n i k same late lt within c.before_into.ensures in
          let added = (rw weight at c.add_products-in-taps.ensures.added (i * ch + k) at) ∙ ap (λ z. slice_index_or c.taps.sums (i * ch + k) (pos 0) +ℤ (slice_index_or ws (p + 1) (pos 0) *ℤ z)) early in
          echo-next (weighed_taps es (drop 1 ws)) p (c.index.result.now.0, slice_index_or ws (p + 1) (pos 0)) c.index.result.now _ k _ _ _ in_range is added (value i k lt within);
      small = λ k.
          let bound = c.add_products-in-taps.ensures.bound k in
          let so = c.taps.invariant.small k in
          omega (arith, bound, so);
    }

pub returns-clause-value : goal.returns-clause-value
returns-clause-value c =
    let es : List Tap = c.self.inside.taps.items in
    let ws : List ℤ = c.small.inside.weights in
    let value = rw (← c.self.view_is, ← c.small.view_is) at c.taps.invariant.value in
    let over : length (weighed_taps es (drop 1 ws)) ≤ c.taps.place = rw (weighed-length es (drop 1 ws)) (omega (arith, c.taps-test.false, c.len-place-end.ensures)) in
    rw (← c.self.view_is, ← c.small.view_is) (λ i k lt within. echo-last (weighed_taps es (drop 1 ws)) c.taps.place _ k _ _ over (value i k lt within))
