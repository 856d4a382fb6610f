-- The gains of an `echo` or `echos` in lowest terms.
use Rattle.std.proofs.Common.{ℕ, ℤ, pos, zero, suc, ◌+◌, ◌*◌, ◌^◌, ◌<◌, ◌≡◌, ◌+ℤ◌, ◌*ℤ◌, List, [], ◌∷◌, drop, length, map, get_or, refl, sym, ap, ◌∙◌, arith, to_z, of_z, IfSome, None, Option, Some}
use Rattle.std.specs.Int.{w32}
use Rattle.std.proofs.lemmas.Int.{fits_signed_from_abs, ints, to_z-of_z}
use Rattle.std.proofs.lemmas.List.{length-map}
use Rattle.fx_fixed.specs.Rounding.{rounding}
use Rattle.fx_fixed.specs.declared.gains.TheConstants.{UNIT}
use Rattle.fx_tap_delays.specs.Echo.{EchoArguments, echo_sum, echoed_sample, sum_of_taps}
use Rattle.fx_tap_sums.specs.Weights.{AreSmall, Weights}
use Rattle.fx_tap_delays.specs.EchoWeights.{Suits, weighed, weighed_taps, SoundsAsEcho}
use Rattle.fx_tap_sums.specs.Products.{sum_of_products}
use Rattle.fx_frame.specs.History.{History}
use Rattle.fx_tap_delays.specs.DelayExtents.{Tap}
use Rattle.fx_tap_sums.proofs.WeightLaws.{second-on}

-- ---- places of the weighed echoes

pub weighed-length : (es : List Tap) (ws : List ℤ) → length (weighed_taps es ws) ≡ length es
weighed-length [] ws = refl
weighed-length (e ∷ es) ws = ap suc (weighed-length es (drop 1 ws))

pub weighed-place : (es : List Tap) (ws : List ℤ) (i : ℕ) (d : Tap) → i < length es → get_or (weighed_taps es ws) i d ≡ ((get_or es i d).0, get_or ws i (pos 0))
weighed-place [] ws i d h = absurd (omega (arith, h))
weighed-place (e ∷ es) ws zero d h = refl
weighed-place (e ∷ es) ws (suc i) d h = weighed-place es (drop 1 ws) i d (omega (arith, h)) ∙ ap (λ w. ((get_or es i d).0, w)) (second-on ws i)

pub weighed-at : (es : List Tap) (ws : List ℤ) (i : ℕ) (x : Tap) → i < length es → x ≡ get_or es i x → (x.0, get_or ws (i + 1) (pos 0)) ≡ get_or (weighed_taps es (drop 1 ws)) i x
weighed-at es ws i x h is =
    let next : suc i ≡ i + 1 = omega arith in
    let second : get_or (drop 1 ws) i (pos 0) ≡ get_or ws (i + 1) (pos 0) = second-on ws i ∙ ap (λ j. get_or ws j (pos 0)) next in
    let first : x.0 ≡ (get_or es i x).0 = ap (λ (y : Tap). y.0) is in
    sym (weighed-place es (drop 1 ws) i x h ∙ ap (λ w. ((get_or es i x).0, w)) second ∙ ap (λ n. (n, get_or ws (i + 1) (pos 0))) (sym first))

-- a small weight fits 32 bits
pub held-weight : (ws : List ℤ) (i : ℕ) → AreSmall (2 ^ 27) ws → to_z w32 (of_z w32 (get_or ws i (pos 0))) ≡ get_or ws i (pos 0)
held-weight ws i small = to_z-of_z w32 (get_or ws i (pos 0)) (fits_signed_from_abs w32 (get_or ws i (pos 0)) (omega (arith, small i)))

-- ---- the echoes as products

taps-products : (es : List Tap) (history : History) (k : ℕ) → sum_of_taps es history k ≡ sum_of_products (map (λ e. e.1) es) (map (λ e. history e.0 k) es)
taps-products [] history k = refl
taps-products (e ∷ es) history k = ap (λ z. (e.1 *ℤ history e.0 k) +ℤ z) (taps-products es history k)

weighed-products : (es : List Tap) (ws : List ℤ) (history : History) (k : ℕ) → sum_of_taps (weighed_taps es ws) history k ≡ sum_of_products ws (map (λ e. history e.0 k) es)
weighed-products [] [] history k = refl
weighed-products [] (w ∷ ws) history k = refl
weighed-products (e ∷ es) [] history k = let more = weighed-products es [] history k in omega (arith, ints, more)
weighed-products (e ∷ es) (w ∷ ws) history k = ap (λ z. (w *ℤ history e.0 k) +ℤ z) (weighed-products es ws history k)

-- a rounded sum of an `echo` with those weights is that of the `echo`
pub small-sample : (a : EchoArguments) (w : Weights) (history : History) (k : ℕ) → SoundsAsEcho a.echo w → rounding (echo_sum (weighed a.echo w.weights) history k) w.denominator ≡ echoed_sample a.echo history k
small-sample a w history k sounds =
    ap (λ z. rounding ((get_or w.weights 0 (pos 0) *ℤ history 0 k) +ℤ z) w.denominator) (weighed-products a.echo.taps (drop 1 w.weights) history k)
    ∙ sounds (history 0 k) (map (λ e. history e.0 k) a.echo.taps) (length-map a.echo.taps (λ e. history e.0 k))
    ∙ ap (λ z. rounding (a.echo.gain_out *ℤ ((a.echo.gain_in *ℤ history 0 k) +ℤ z)) (UNIT * UNIT)) (sym (taps-products a.echo.taps history k))

-- small weights that sound as the gains suit an `echos`
pub suits-of : (a : EchoArguments) (o : Option Weights) → IfSome o (SoundsAsEcho a.echo) → IfSome o (λ w. AreSmall (2 ^ 24) w.weights) → IfSome o (Suits a)
suits-of a None sounds small = tt
suits-of a (Some w) sounds small = record { sounds = sounds; small = small }
