-- The echoes of a frame, added one after the other.
use Rattle.std.proofs.Common.{ℕ, ℤ, pos, ◌+◌, ◌*◌, ◌<◌, ◌≤◌, ◌≡◌, ◌+ℤ◌, ◌*ℤ◌, true, List, [], ◌∷◌, ◌++◌, length, drop, get_or, refl, sym, ap, ◌∙◌, arith, add-one, drop-cons, zero-add, ◌-◌, nat_le, slice_index_or}
use Rattle.std.proofs.lemmas.Bool.Decides.{nat_tests}
use Rattle.std.proofs.lemmas.Int.{ints}
use Rattle.std.proofs.lemmas.List.{drop_all}
use Rattle.fx_fixed.specs.Rounding.{rounding}
use Rattle.fx_fixed.specs.declared.gains.TheConstants.{UNIT}
use Rattle.fx_frame_base.specs.Frame.{Samples}
use Rattle.fx_frame_base.specs.Lists.{tabulate}
use Rattle.fx_tap_delays.specs.Echo.{EchoArguments, echo_sum, echoed_sample, sum_of_taps}
use Rattle.fx_frame.specs.History.{History, sample_before}
use Rattle.fx_frame_base.proofs.Tabulate.{tabulate-same}
use Rattle.fx_tap_delays.specs.DelayExtents.{Tap}
use Rattle.fx_tap_sums.proofs.SumLaws.{add-next}

-- the frame that comes after those of the line is the one that is 0 frames ago
frame-now : (items : List Samples) (f : Samples) → get_or (items ++ f ∷ []) (length items) [] ≡ f
frame-now [] f = refl
frame-now (x ∷ items) f = frame-now items f

pub sample-now : (items : List Samples) (f : Samples) (k : ℕ) → sample_before (items ++ f ∷ []) (length items) 0 k ≡ slice_index_or f k (pos 0)
sample-now items f k =
    let a : nat_le 0 (length items) ≡ true = grind (arith, nat_tests) in
    let i : length items - 0 ≡ length items = omega arith in
    rw (a, i) (ap (λ x. slice_index_or x k (pos 0)) (frame-now items f))

-- before the first echo
pub echo-first : (y o z p e : ℤ) → y ≡ o +ℤ z → o ≡ pos 0 → p ≡ z → y +ℤ e ≡ p +ℤ e
echo-first y o z p e a b h = omega (arith, ints, a, b, h)

taps-drop : (es : List Tap) (i : ℕ) (e d : Tap) (history : History) (k : ℕ) → i < length es → e ≡ get_or es i d → sum_of_taps (drop i es) history k ≡ (e.1 *ℤ history e.0 k) +ℤ sum_of_taps (drop (i + 1) es) history k
taps-drop es i e d history k h is = rw (is, add-one, drop-cons es i d) refl

pub echo-next : (es : List Tap) (i : ℕ) (e d : Tap) (history : History) (k : ℕ) (y s w : ℤ) → i < length es → e ≡ get_or es i d → y ≡ s +ℤ (e.1 *ℤ history e.0 k)
    → s +ℤ sum_of_taps (drop i es) history k ≡ w → y +ℤ sum_of_taps (drop (i + 1) es) history k ≡ w
echo-next es i e d history k y s w h is more whole =
    add-next y s (e.1 *ℤ history e.0 k) (sum_of_taps (drop (i + 1) es) history k) w more (ap (λ r. s +ℤ r) (sym (taps-drop es i e d history k h is)) ∙ whole)

-- after the last
pub echo-last : (es : List Tap) (i : ℕ) (history : History) (k : ℕ) (s w : ℤ) → length es ≤ i → s +ℤ sum_of_taps (drop i es) history k ≡ w → s ≡ w
echo-last es i history k s w h whole =
    let none : drop i es ≡ [] = drop_all i es h in
    let e : s +ℤ pos 0 ≡ w = rw none at whole in
    omega (arith, ints, e)

-- the rounded sums are the rounded echoes
pub echoed-is : (a : EchoArguments) (history : History) (sums : List ℤ) → ((k : ℕ) → k < a.channels → slice_index_or sums k (pos 0) ≡ echo_sum a.echo history k)
    → tabulate (λ k. rounding (a.echo.gain_out *ℤ slice_index_or sums k (pos 0)) (UNIT * UNIT)) 0 a.channels ≡ tabulate (echoed_sample a.echo history) 0 a.channels
echoed-is a history sums h =
    tabulate-same (λ k. rounding (a.echo.gain_out *ℤ slice_index_or sums k (pos 0)) (UNIT * UNIT)) (echoed_sample a.echo history) 0 0 a.channels (λ k l.
    rw zero-add (ap (λ z. rounding (a.echo.gain_out *ℤ z) (UNIT * UNIT)) (h k l)))
