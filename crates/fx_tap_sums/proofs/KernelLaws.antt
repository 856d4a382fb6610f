-- Coefficients over a denominator, in lowest terms.
use Rattle.std.proofs.Common.{◌≡◌, ℕ, zero, suc, ◌+◌, ◌*◌, ◌<◌, ◌≤◌, List, [], ◌∷◌, length, take, drop, get_or, refl, sym, ap, ◌∙◌, arith, ℤ, pos, ◌+ℤ◌, ◌*ℤ◌, sum_by, unsigned_abs}
use Rattle.std.proofs.lemmas.Int.{ints}
use Rattle.std.proofs.lemmas.List.{get_or-drop, length-drop}
use Rattle.std.proofs.lemmas.List.Sums.{sum_by-cons}
use Rattle.fx_fixed.specs.Reduced.{IsReduced}
use Rattle.fx_fixed.specs.Rounding.{rounding}
use Rattle.fx_fixed.proofs.Reductions.{rounding-reduced}
use Rattle.fx_tap_sums.specs.Weights.{Weights}
use Rattle.fx_tap_sums.specs.SmallWeights.{SumsAs}
use Rattle.fx_tap_sums.specs.Products.{sum_of_products}
use Rattle.fx_tap_sums.proofs.Numbers.{below-positive, one-times, mul-add, mul_assoc}
use Rattle.std.proofs.Math.IntN.{*ℤ_comm}

-- a factor of each weight is one of the sum
one-more : (by x w c rest more : ℤ) → by *ℤ w ≡ c → by *ℤ rest ≡ more → by *ℤ ((x *ℤ w) +ℤ rest) ≡ (x *ℤ c) +ℤ more
one-more by x w c rest more first others =
    let here : by *ℤ (x *ℤ w) ≡ x *ℤ c = mul_assoc by x w ∙ ap (λ z. z *ℤ w) (*ℤ_comm by x) ∙ sym (mul_assoc x by w) ∙ ap (λ z. x *ℤ z) first in
    mul-add by (x *ℤ w) rest ∙ ap (λ z. z +ℤ (by *ℤ rest)) here ∙ ap (λ z. (x *ℤ c) +ℤ z) others

times-none : (by : ℤ) → by *ℤ pos 0 ≡ pos 0
times-none by = omega (arith, ints)

scaled-products : (by : ℤ) (xs ws cs : List ℤ) → length ws ≡ length cs → ((k : ℕ) → k < length cs → by *ℤ get_or ws k (pos 0) ≡ get_or cs k (pos 0)) → by *ℤ sum_of_products xs ws ≡ sum_of_products xs cs
scaled-products by [] ws cs same scaled = times-none by
scaled-products by (x ∷ xs) [] [] same scaled = times-none by
scaled-products by (x ∷ xs) [] (c ∷ cs) same scaled = absurd (omega (arith, same))
scaled-products by (x ∷ xs) (w ∷ ws) [] same scaled = absurd (omega (arith, same))
scaled-products by (x ∷ xs) (w ∷ ws) (c ∷ cs) same scaled =
    one-more by x w c (sum_of_products xs ws) (sum_of_products xs cs) (scaled 0 (omega arith)) (scaled-products by xs ws cs (omega (arith, same)) (λ k l. scaled (suc k) (omega (arith, l))))

pub reduced-sums : (cs : List ℤ) (w : Weights) (gain : ℤ) (whole : ℕ) → gain ≡ pos 1 → 0 < whole → length w.weights ≡ length cs → IsReduced gain whole cs w.weights w.denominator → SumsAs cs whole w
reduced-sums cs w gain whole one some count reduced =
    let by : ℤ = pos reduced.by in
    let q = below-positive reduced.by w.denominator whole reduced.below some in
    let above : (k : ℕ) → k < length cs → by *ℤ get_or w.weights k (pos 0) ≡ get_or cs k (pos 0) = λ k l. reduced.above k l ∙ ap (λ g. g *ℤ get_or cs k (pos 0)) one ∙ one-times (get_or cs k (pos 0)) in
    record {
      count = count;
      small = reduced.small;
      rounds = λ xs n.
          let left = length-drop n w.weights in
          let right = length-drop n cs in
          let sum : by *ℤ sum_of_products xs (drop n w.weights) ≡ sum_of_products xs (drop n cs) =
          scaled-products by xs (drop n w.weights) (drop n cs) (omega (arith, left, right, count)) (λ k l.
          rw (get_or-drop n w.weights k (pos 0), get_or-drop n cs k (pos 0)) (above (n + k) (omega (arith, right, l)))) in
          sym (rounding-reduced reduced.by w.denominator (sum_of_products xs (drop n w.weights)) reduced.positive q)
          ∙ ap (λ z. rounding z (reduced.by * w.denominator)) sum
          ∙ ap (λ m. rounding (sum_of_products xs (drop n cs)) m) reduced.below;
    }

-- ---- some of the weights

front-bound : (ws : List ℤ) (n : ℕ) → sum_by unsigned_abs (take n ws) ≤ sum_by unsigned_abs ws
front-bound ws zero = omega arith
front-bound [] (suc n) = omega arith
front-bound (w ∷ ws) (suc n) =
    let rest = front-bound ws n in
    rw (sum_by-cons unsigned_abs w ws, sum_by-cons unsigned_abs w (take n ws)) (omega (arith, rest))

rest-bound : (ws : List ℤ) (n : ℕ) → sum_by unsigned_abs (drop n ws) ≤ sum_by unsigned_abs ws
rest-bound ws zero = omega arith
rest-bound [] (suc n) = omega arith
rest-bound (w ∷ ws) (suc n) =
    let rest = rest-bound ws n in
    rw (sum_by-cons unsigned_abs w ws) (omega (arith, rest))

pub part-bound : (ws : List ℤ) (m n : ℕ) → sum_by unsigned_abs (take n (drop m ws)) ≤ sum_by unsigned_abs ws
part-bound ws m n = omega (arith, front-bound (drop m ws) n, rest-bound ws m)

-- ---- sums over a window

-- only so many samples count as there are coefficients
pub taken-products : (xs cs : List ℤ) (n : ℕ) → n ≡ length cs → sum_of_products (take n xs) cs ≡ sum_of_products xs cs
taken-products [] cs zero same = refl
taken-products [] cs (suc n) same = refl
taken-products (x ∷ xs) [] zero same = refl
taken-products (x ∷ xs) [] (suc n) same = absurd (omega (arith, same))
taken-products (x ∷ xs) (c ∷ cs) zero same = absurd (omega (arith, same))
taken-products (x ∷ xs) (c ∷ cs) (suc n) same = ap (λ z. (x *ℤ c) +ℤ z) (taken-products xs cs n (omega (arith, same)))

-- a sum of the weights, rounded, is that of the coefficients
pub rounded-as : (cs xs : List ℤ) (whole : ℕ) (w : Weights) (sum : ℤ) → SumsAs cs whole w → sum ≡ sum_of_products xs w.weights → rounding sum w.denominator ≡ rounding (sum_of_products xs cs) whole
rounded-as cs xs whole w sum sums is = ap (λ z. rounding z w.denominator) is ∙ sums.rounds xs 0

-- only so many coefficients count as there are samples
pub sum_of_products-take : (xs cs : List ℤ) (n : ℕ) → length xs ≡ n → sum_of_products xs (take n cs) ≡ sum_of_products xs cs
sum_of_products-take [] cs n same = refl
sum_of_products-take (x ∷ xs) cs zero same = absurd (omega arith)
sum_of_products-take (x ∷ xs) [] (suc n) same = refl
sum_of_products-take (x ∷ xs) (c ∷ cs) (suc n) same = ap (λ z. (x *ℤ c) +ℤ z) (sum_of_products-take xs cs n (omega arith))
