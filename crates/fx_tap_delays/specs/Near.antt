-- Each effect with a line depends on no frames before its reach.
use Rattle.std.specs.Prelude.{ℕ, ◌≤◌, ◌≡◌, List, [], ◌∷◌, length, slice_index, map}
use Rattle.std.proofs.Common.{zero, suc, refl, ap, arith}
use Rattle.fx_fixed.specs.Extents.{largest}
use Rattle.fx_tap_delays.specs.DelayExtents.{Tap, tap_delay}
use Rattle.fx_frame_base.specs.Lists.{tabulate}
use Rattle.fx_frame_base.specs.Given.{plain, given_samples}
use Rattle.fx_frame.specs.Tapped.{Agree, IsNear}
use Rattle.fx_frame.specs.History.{History}
use Rattle.fx_tap_delays.specs.DelayState.{delay_taps}
use Rattle.fx_tap_delays.specs.Echo.{echoed_sample, sum_of_taps}
use Rattle.fx_tap_delays.specs.EchoState.{echo_taps}

-- each of the delays is at most the longest
pub largest-le : (delays : List ℕ) (k : ℕ) → slice_index delays k ≤ largest delays
largest-le [] k = omega arith
largest-le (d ∷ ds) zero = omega arith
largest-le (d ∷ ds) (suc k) = let h = largest-le ds k in omega arith

-- two that agree everywhere
pub tabulate-equal : {X : Type 0} (f g : ℕ → X) (from count : ℕ) → ((k : ℕ) → f k ≡ g k) → tabulate f from count ≡ tabulate g from count
tabulate-equal f g from zero h = refl
tabulate-equal f g from (suc count) h = rw (h from) (ap (λ l. g from ∷ l) (tabulate-equal f g (suc from) count h))

-- no channel is delayed by more than the longest delay
pub delays-near : IsNear delay_taps
delays-near delays p q h = ap plain (tabulate-equal (λ k. p (slice_index delays k) k) (λ k. q (slice_index delays k) k) 0 (length delays) (λ k. h (slice_index delays k) k (largest-le delays k)))

-- no echo has a longer delay than the longest
sum_of_taps-same : (taps : List Tap) (p q : History) (k : ℕ) → Agree (largest (map tap_delay taps)) p q → sum_of_taps taps p k ≡ sum_of_taps taps q k
sum_of_taps-same [] p q k h = refl
sum_of_taps-same (e ∷ es) p q k h =
    let first : p e.0 k ≡ q e.0 k = h e.0 k (omega arith) in
    let more : sum_of_taps es p k ≡ sum_of_taps es q k = sum_of_taps-same es p q k (λ d c l. h d c (omega arith)) in
    rw (first, more) refl

pub taps-near : IsNear echo_taps
taps-near a p q h =
    ap given_samples (tabulate-equal (echoed_sample a.echo p) (echoed_sample a.echo q) 0 a.channels (λ k.
    let first : p 0 k ≡ q 0 k = h 0 k (omega arith) in
    rw (first, sum_of_taps-same a.echo.taps p q k h) refl))
