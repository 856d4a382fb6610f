use Rattle.std.proofs.Common.{rules, arith, ◌≡◌, ◌<◌, ◌+◌, ◌+ℤ◌, ◌*ℤ◌, ◌∙◌, ap, refl, cond, sym, get_or, drop, length, ℕ, ℤ, Bool, List, ◌∷◌, pos, to_z, of_z, w32, w64}
use Rattle.std.proofs.lemmas.List.{drop-set-lt, drop_more}
use Rattle.fx_fixed.specs.Rounding.{clip_count, rounding}
use Rattle.fx_tap_sums.specs.Weights.{Weights}
use Rattle.fx_tap_delays.proofs.EchoWeights.{held-weight}
use Rattle.fx_tap_sums.proofs.SmallSums.{held-in-64, plain-added}
use Rattle.fx_frame_base.proofs.Rounds.{samples_of-next, clips_of-next, byte_is, byte-le}
use Rattle.fx_tap_delays.proofs.echo.one_echo_over.Goals as goal

pub overflow_add-sum : goal.overflow_add-sum
overflow_add-sum c =
    let direct : to_z w64 (of_z w64 c.product-direct.result) ≡ c.product-direct.result = held-in-64 c.product-direct.result (omega (arith, c.product-direct.ensures.bound)) in
    (plain-added (to_z w64 (of_z w64 c.product-direct.result)) c.product-echo.result (rw direct (omega (arith, c.product-direct.ensures.bound))) c.product-echo.ensures.bound).0

pub channels-preserved : goal.channels-preserved
channels-preserved c =
    let w : Weights = record { weights = c.small.inside.weights; denominator = c.small.inside.denominator } in
    let ws : List ℤ = w.weights in
    let k : ℕ = c.channels.channel in
    let xs : List ℤ = c.args.came.now in
    let ys : List ℤ = c.args.earlier.now in
    let now : List ℤ = c.channels.earlier in
    let f : ℕ → ℤ × Bool = λ i. rounding ((get_or ws 0 (pos 0) *ℤ get_or xs i (pos 0)) +ℤ (get_or ws 1 (pos 0) *ℤ get_or ys i (pos 0))) w.denominator in
    let old = rw (← c.small.view_is) at c.channels.invariant in
    let h : k < length ys = omega (arith, c.channels-test.true, c.requires.places) in
    let long : k < length now = omega (arith, h, c.channels.auto.earlier) in
    let both : get_or now k (pos 0) ∷ drop (k + 1) now ≡ get_or ys k (pos 0) ∷ drop (k + 1) ys = sym (drop_more now k (pos 0) long) ∙ old.rest ∙ drop_more ys k (pos 0) h in
    let place : get_or now k (pos 0) ≡ get_or ys k (pos 0) = cc (both) in
    let next : drop (k + 1) now ≡ drop (k + 1) ys = cc (both) in
    let y : ℤ = c.round_and_count.result in
    let out : to_z w32 (of_z w32 y) ≡ y = search rules in
    let came : to_z w32 (of_z w32 (get_or xs k (pos 0))) ≡ get_or xs k (pos 0) = search rules in
    let early : to_z w32 (of_z w32 (get_or now k (pos 0))) ≡ get_or now k (pos 0) = search rules in
    let first = rw (held-weight ws 0 c.small.invariant, came) at c.product-direct.ensures.value in
    let second = (rw (held-weight ws 1 c.small.invariant, early) at c.product-echo.ensures.value) ∙ ap (λ z. get_or ws 1 (pos 0) *ℤ z) place in
    let direct : to_z w64 (of_z w64 c.product-direct.result) ≡ c.product-direct.result = held-in-64 c.product-direct.result (omega (arith, c.product-direct.ensures.bound)) in
    let sum = rw direct at (plain-added (to_z w64 (of_z w64 c.product-direct.result)) c.product-echo.result (rw direct (omega (arith, c.product-direct.ensures.bound))) c.product-echo.ensures.bound).1 in
    let both_are : c.product-direct.result +ℤ c.product-echo.result ≡ (get_or ws 0 (pos 0) *ℤ get_or xs k (pos 0)) +ℤ (get_or ws 1 (pos 0) *ℤ get_or ys k (pos 0)) = ap (λ z. z +ℤ c.product-echo.result) first ∙ ap (λ z. (get_or ws 0 (pos 0) *ℤ get_or xs k (pos 0)) +ℤ z) second in
    let rounded : rounding (to_z w64 (of_z w64 (to_z w64 (of_z w64 c.product-direct.result) +ℤ to_z w64 (of_z w64 c.product-echo.result)))) w.denominator ≡ f k = ap (λ z. rounding z w.denominator) ((rw direct sum) ∙ both_are) in
    let sample : y ≡ (f k).0 = c.round_and_count.ensures.sample ∙ ap (λ r. r.0) rounded in
    let counted : c.round_and_count.new.clips ≡ c.channels.clips + cond (f k).1 1 0 = c.round_and_count.ensures.clips ∙ ap (λ r. c.channels.clips + clip_count r) rounded in
    rw (← c.small.view_is)
    record {
      done = rw out (samples_of-next f now k y long old.done sample);
      rest = drop-set-lt (k + 1) now k _ (omega arith) ∙ next;
      counted = counted ∙ clips_of-next f k c.channels.clips (f k).1 old.counted refl;
      bound = omega (arith, counted, byte-le (f k).1, byte_is (f k).1, old.bound);
    }
