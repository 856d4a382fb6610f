-- Gains in lowest terms sound as the gains.
use Rattle.std.proofs.Common.{ℕ, ℤ, pos, suc, ◌≡◌, List, [], ◌∷◌, drop, get_or, refl, ◌+ℤ◌, ◌*ℤ◌, sym, ap, ◌∙◌, arith, ◌<◌, ◌≤◌, length, map, ◌+◌, ◌*◌}
use Rattle.fx_tap_sums.proofs.Numbers.{mul-add, mul_assoc, below-positive}
use Rattle.std.proofs.lemmas.Int.{ints}
use Rattle.fx_tap_sums.specs.Products.{sum_of_products}
use Rattle.std.proofs.lemmas.List.{length-drop}
use Rattle.fx_fixed.specs.Reduced.{IsReduced}
use Rattle.fx_fixed.specs.Rounding.{rounding}
use Rattle.fx_fixed.specs.declared.gains.TheConstants.{UNIT}
use Rattle.fx_fixed.proofs.Reductions.{rounding-reduced}
use Rattle.fx_tap_sums.specs.Weights.{SoundsAs, Weights}

pub second-on : (ws : List ℤ) (i : ℕ) → get_or (drop 1 ws) i (pos 0) ≡ get_or ws (suc i) (pos 0)
second-on [] i = refl
second-on (w ∷ ws) i = refl

-- ---- the sums

one-more : (by g w d p rest more : ℤ) → by *ℤ w ≡ g *ℤ d → by *ℤ rest ≡ g *ℤ more → by *ℤ ((w *ℤ p) +ℤ rest) ≡ g *ℤ ((d *ℤ p) +ℤ more)
one-more by g w d p rest more first others =
    let left : by *ℤ (w *ℤ p) ≡ g *ℤ (d *ℤ p) = mul_assoc by w p ∙ ap (λ z. z *ℤ p) first ∙ sym (mul_assoc g d p) in
    mul-add by (w *ℤ p) rest ∙ ap (λ z. z +ℤ (by *ℤ rest)) left ∙ ap (λ z. (g *ℤ (d *ℤ p)) +ℤ z) others ∙ sym (mul-add g (d *ℤ p) more)

times-none : (by g : ℤ) → by *ℤ pos 0 ≡ g *ℤ pos 0
times-none by g = omega (arith, ints)

scaled-products : (by g : ℤ) (es : List (ℕ × ℤ)) (ws ys : List ℤ) → length es ≤ length ws → length ys ≡ length es → ((j : ℕ) → j < length es → by *ℤ get_or ws j (pos 0) ≡ g *ℤ (get_or es j (0, pos 0)).1)
    → by *ℤ sum_of_products ws ys ≡ g *ℤ sum_of_products (map (λ e. e.1) es) ys
scaled-products by g [] [] ys long many scaled = times-none by g
scaled-products by g [] (w ∷ ws) [] long many scaled = times-none by g
scaled-products by g (e ∷ es) (w ∷ ws) (y ∷ ys) long many scaled =
    one-more by g w e.1 y _ _ (scaled 0 (omega arith)) (scaled-products by g es ws ys (omega arith) (omega arith) (λ j l. scaled (suc j) (omega (arith, l))))
scaled-products by g _ _ _ long many scaled = absurd (omega arith)

-- gains in lowest terms sound as the gains
pub reduced-sounds : (gain_in gain_out g : ℤ) (es : List (ℕ × ℤ)) (cs : List ℤ) (w : Weights) → g ≡ gain_out → length es ≤ 7 → length cs ≡ 8 → length w.weights ≡ 8
    → get_or cs 0 (pos 0) ≡ gain_in → ((k : ℕ) → k < length es → get_or cs (k + 1) (pos 0) ≡ (get_or es k (0, pos 0)).1)
    → IsReduced g (UNIT * UNIT) cs w.weights w.denominator → SoundsAs gain_in gain_out es w
reduced-sounds gain_in gain_out g es cs w same bound count long first others reduced x ys many =
    let ws : List ℤ = w.weights in
    let by : ℤ = pos reduced.by in
    let q = below-positive reduced.by w.denominator (UNIT * UNIT) reduced.below (omega arith) in
    let a : by *ℤ get_or ws 0 (pos 0) ≡ g *ℤ gain_in = reduced.above 0 (omega (arith, count)) ∙ ap (λ z. g *ℤ z) first in
    let rest : length es ≤ length (drop 1 ws) = omega (arith, bound, long, length-drop 1 ws) in
    let b : by *ℤ sum_of_products (drop 1 ws) ys ≡ g *ℤ sum_of_products (map (λ e. e.1) es) ys =
    scaled-products by g es (drop 1 ws) ys rest many (λ j l.
    let next : suc j ≡ j + 1 = omega arith in
    ap (λ z. by *ℤ z) (second-on ws j) ∙ reduced.above (suc j) (omega (arith, count, bound, l)) ∙ ap (λ i. g *ℤ get_or cs i (pos 0)) next ∙ ap (λ z. g *ℤ z) (others j l)) in
    let sum = one-more by g (get_or ws 0 (pos 0)) gain_in x (sum_of_products (drop 1 ws) ys) (sum_of_products (map (λ e. e.1) es) ys) a b in
    sym (rounding-reduced reduced.by w.denominator ((get_or ws 0 (pos 0) *ℤ x) +ℤ sum_of_products (drop 1 ws) ys) reduced.positive q)
    ∙ ap (λ z. rounding z (reduced.by * w.denominator)) sum
    ∙ ap (λ n. rounding (g *ℤ ((gain_in *ℤ x) +ℤ sum_of_products (map (λ e. e.1) es) ys)) n) reduced.below
    ∙ ap (λ z. rounding (z *ℤ ((gain_in *ℤ x) +ℤ sum_of_products (map (λ e. e.1) es) ys)) (UNIT * UNIT)) same
