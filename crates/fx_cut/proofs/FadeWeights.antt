-- The weights of a fade, and frames weighed one after another.
use Rattle.std.proofs.Common.{◌≡◌, ℕ, zero, suc, ◌+◌, ◌-◌, ◌*◌, ◌<◌, ◌≤◌, List, [], ◌∷◌, ◌++◌, map, length, ap, arith, add-zero, refl, Option, Some, None}
use Rattle.std.specs.Int.{w32}
use Rattle.std.specs.List.{All, enumerate_from}
use Rattle.std.proofs.lemmas.List.Elements.{All-head, All-tail}
use Rattle.std.proofs.Math.Nat.{mul-le-mul_left, mul-le-mul_right}
use Rattle.fx_frame_base.specs.Frame.{Samples}
use Rattle.fx_frame_base.specs.Stage.{Given}
use Rattle.fx_frame_base.specs.Given.{plain}
use Rattle.fx_frame_line.specs.Line.{IsSamples}
use Rattle.fx_cut.specs.declared.fade.words.Fading.{Fading}
use Rattle.fx_cut.specs.Fade.{faded_frame, weight, weighted, weights}
use Rattle.fx_cut.specs.FadeState.{stop_determined}
use Rattle.fx_cut.proofs.Weighing.{given-plain, whole-frame}

-- what is given of frames before the stop that fall out of the line one after another, the first of which is frame n
abbrev pub faded_along : Fading → ℕ → List Samples → List Given
faded_along f n frames = map (λ e. faded_frame f (stop_determined f e.0) e.0 e.1) (enumerate_from n frames)

-- a weight is at most 1, and its denominator is not 0
pub weight-maximum : (len n : ℕ) → ((weight len n).0 ≤ (weight len n).1) × (0 < (weight len n).1)
weight-maximum zero n = (omega arith, omega arith)
weight-maximum (suc len) n = (omega arith, omega arith)

-- two weights multiplied are one
pub product-maximum : (a b c d : ℕ) → (a ≤ c) × (0 < c) → (b ≤ d) × (0 < d) → (a * b ≤ c * d) × (0 < c * d)
product-maximum a b c d h g =
    let one : a * b ≤ a * d = mul-le-mul_left a g.0 in
    let two : a * d ≤ c * d = mul-le-mul_right d h.0 in
    let some : 1 * d ≤ c * d = mul-le-mul_right d h.1 in
    let over = g.1 in
    (omega arith, omega arith)

pub weights-some : (f : Fading) (stop : Option ℕ) (n : ℕ) → 0 < (weights f stop n).1
weights-some f None n = (weight-maximum f.fade_in n).1
weights-some f (Some stop) n = (product-maximum _ _ _ _ (weight-maximum f.fade_in n) (weight-maximum f.fade_out (stop - n))).1

-- frames of the weight 1 are given unchanged
pub all-flat : (f : Fading) (channels n : ℕ) (os : List Samples) → ((i : ℕ) → i < length os → (weights f (stop_determined f (n + i)) (n + i)).0 ≡ (weights f (stop_determined f (n + i)) (n + i)).1) → All (IsSamples w32 channels) os → map plain os ≡ faded_along f n os
all-flat f channels n [] whole samples = refl
all-flat f channels n (o ∷ os) whole samples =
    let first = whole 0 (omega arith) in
    let one : (weights f (stop_determined f n) n).0 ≡ (weights f (stop_determined f n) n).1 = rw add-zero at first in
    let fits = (All-head (IsSamples w32 channels) o os samples).fits in
    let here : faded_frame f (stop_determined f n) n o ≡ plain o = given-plain (map (weighted (weights f (stop_determined f n) n)) o) o (whole-frame o (weights f (stop_determined f n) n) one (weights-some f (stop_determined f n) n) fits) in
    let rest = all-flat f channels (n + 1) os (λ i h. let e : n + (i + 1) ≡ n + 1 + i = omega arith in let k = whole (i + 1) (omega arith) in rw e at k) (All-tail (IsSamples w32 channels) o os samples) in
    cc (here, rest)

-- one more frame falls out
pub faded_along-more : (f : Fading) (n : ℕ) (xs : List Samples) (x : Samples) → faded_along f n (xs ++ x ∷ []) ≡ faded_along f n xs ++ faded_frame f (stop_determined f (n + length xs)) (n + length xs) x ∷ []
faded_along-more f n [] x = let e : n + 0 ≡ n = omega arith in rw e refl
faded_along-more f n (y ∷ ys) x =
    let e : n + 1 + length ys ≡ n + length (y ∷ ys) = omega arith in
    let rest = rw e at (faded_along-more f (n + 1) ys x) in
    ap (λ l. faded_frame f (stop_determined f n) n y ∷ l) rest
