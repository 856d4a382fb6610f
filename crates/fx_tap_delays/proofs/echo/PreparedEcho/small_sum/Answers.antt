use Rattle.std.proofs.Common.{rules, ◌≡◌, ◌<◌, ◌≤◌, ◌+◌, ◌^◌, ◌+ℤ◌, ◌*ℤ◌, ◌∙◌, ap, arith, length, List, ℕ, ℤ, drop, pos, slice_index_or, unsigned_abs, to_z, of_z}
use Rattle.std.specs.Int.{w32, w64}
use Rattle.fx_tap_delays.specs.Echo.{sum_of_taps}
use Rattle.fx_tap_delays.specs.EchoWeights.{weighed_taps}
use Rattle.fx_frame.specs.History.{History}
use Rattle.fx_tap_delays.proofs.EchoLaws.{echo-next, echo-last}
use Rattle.fx_tap_delays.proofs.EchoWeights.{held-weight, weighed-at, weighed-length}
use Rattle.fx_tap_sums.proofs.SmallSums.{held-in-64, plain-added}
use Rattle.fx_tap_sums.proofs.Magnitudes.{added-bound}
use Rattle.fx_tap_delays.specs.DelayExtents.{Tap}
use Rattle.fx_tap_delays.specs.Tapping.{history_after}
use Rattle.fx_tap_delays.proofs.echo.PreparedEcho.small_sum.Goals as goal

pub overflow_add-sum : goal.overflow_add-sum
overflow_add-sum c =
    let inside : c.taps.place < length c.self.inside.taps.items = omega (arith, c.taps-test.true, c.len-place-end.ensures) in
    let s : ℤ = to_z w64 c.taps.sum-bits in
    let free : unsigned_abs s ≤ 2 ^ 62 = omega (arith, c.taps.invariant.small, inside, c.self.invariant.0.taps_max) in
    (plain-added s c.product-sum-in-taps.result free c.product-sum-in-taps.ensures.bound).0

pub taps-init : goal.taps-init
taps-init c =
    let es : List Tap = c.self.inside.taps.items in
    let ws : List ℤ = c.small.inside.weights in
    let history : History = history_after c.args.line.now.items c.args.frame.now in
    let weight = held-weight ws 0 c.small.invariant in
    let first : to_z w32 (of_z w32 c.sample.result) ≡ c.sample.result = search rules in
    let bound = c.product-sum.ensures.bound in
    let held : to_z w64 (of_z w64 c.product-sum.result) ≡ c.product-sum.result = held-in-64 c.product-sum.result (omega (arith, bound)) in
    let value = held ∙ (rw (weight, first) at c.product-sum.ensures.value) ∙ ap (λ z. slice_index_or ws 0 (pos 0) *ℤ z) c.sample.ensures in
    rw (← c.self.view_is, ← c.small.view_is)
    record {
      value = ap (λ z. z +ℤ sum_of_taps (weighed_taps es (drop 1 ws)) history c.args.channel) value;
      small = rw held (omega (arith, bound));
    }

pub taps-preserved : goal.taps-preserved
taps-preserved c =
    let es : List Tap = c.self.inside.taps.items in
    let ws : List ℤ = c.small.inside.weights in
    let p : ℕ = c.taps.place in
    let value = rw (← c.self.view_is, ← c.small.view_is) at c.taps.invariant.value in
    let weight = held-weight ws (p + 1) c.small.invariant in
    let inside : p < length es = omega (arith, c.taps-test.true, c.len-place-end.ensures) in
    let in_range : p < length (weighed_taps es (drop 1 ws)) = rw (weighed-length es (drop 1 ws)) inside in
    let is = weighed-at es ws p c.index.result.now inside c.index.ensures in
    let s : ℤ = to_z w64 c.taps.sum-bits in
    let free : unsigned_abs s ≤ 2 ^ 62 = omega (arith, c.taps.invariant.small, inside, c.self.invariant.0.taps_max) in
    let bound = c.product-sum-in-taps.ensures.bound in
    let sum = (plain-added s c.product-sum-in-taps.result free bound).1 in
    let late : to_z w32 (of_z w32 c.sample-earlier.result) ≡ c.sample-earlier.result = search rules in
    let times = (rw (weight, late) at c.product-sum-in-taps.ensures.value) ∙ ap (λ z. slice_index_or ws (p + 1) (pos 0) *ℤ z) c.sample-earlier.ensures in
    let added = sum ∙ ap (λ z. s +ℤ z) times in
    let maximum = added-bound s c.product-sum-in-taps.result _ _ c.taps.invariant.small bound in
    rw (← c.self.view_is, ← c.small.view_is)
    record {
      value = echo-next (weighed_taps es (drop 1 ws)) p (c.index.result.now.0, slice_index_or ws (p + 1) (pos 0)) c.index.result.now _ c.args.channel _ _ _ in_range is added value;
      small = rw sum (omega (arith, maximum));
    }

pub returns-clause-value : goal.returns-clause-value
returns-clause-value c =
    let es : List Tap = c.self.inside.taps.items in
    let ws : List ℤ = c.small.inside.weights in
    let value = rw (← c.self.view_is, ← c.small.view_is) at c.taps.invariant.value in
    let over : length (weighed_taps es (drop 1 ws)) ≤ c.taps.place = rw (weighed-length es (drop 1 ws)) (omega (arith, c.taps-test.false, c.len-place-end.ensures)) in
    rw (← c.self.view_is, ← c.small.view_is) (echo-last (weighed_taps es (drop 1 ws)) c.taps.place _ c.args.channel _ _ over value)
