-- The product of four numbers and four others modulo x^4 - s, product by product.
use Rattle.std.proofs.Common.{◌≡◌, ◌+◌, ◌-◌, ◌*◌, ◌<◌, ◌≤◌, ◌∙◌, ap, refl, ℕ, ℤ, pos, ◌+ℤ◌, ◌*ℤ◌, List, [], ◌∷◌, ◌++◌, length, get_or, arith}
use Rattle.std.proofs.lemmas.Int.{ints}
use Rattle.std.proofs.lemmas.Nat.{mul-le}
use Rattle.std.proofs.lemmas.List.{get_or_append_left}
use borrow.Author.Differences.{product_is}
use Rattle.fx_tap_sums.specs.Residues.{AreFour, AreRemainders, Same}
use Rattle.fx_tap_sums.specs.Transform.{IsProduct, cyclic}
use Rattle.fx_tap_sums.proofs.Numbers.{mul-add, mul_swap}
use Rattle.fx_tap_sums.proofs.PairLanes.{each_of_four}
use Rattle.fx_tap_sums.proofs.Residues.{same_is, same_on, same_add, same_mul, same_product}
use Rattle.fx_tap_sums.proofs.Vectors.{by_four}

-- the four sums of which s times the last so many products wrap around
none_wrap : (s a b c d e f g h : ℤ) → (((a *ℤ e) +ℤ (b *ℤ f)) +ℤ ((c *ℤ g) +ℤ (d *ℤ h))) ≡ cyclic s (a ∷ b ∷ c ∷ d ∷ []) (e ∷ f ∷ g ∷ h ∷ []) 3
none_wrap s a b c d e f g h = let none = product_is s (pos 0) in omega (arith, ints)

one_wraps : (s a b c d e f g h : ℤ) → (((a *ℤ f) +ℤ (b *ℤ g)) +ℤ ((c *ℤ h) +ℤ (d *ℤ (s *ℤ e)))) ≡ cyclic s (a ∷ b ∷ c ∷ d ∷ []) (e ∷ f ∷ g ∷ h ∷ []) 2
one_wraps s a b c d e f g h =
    let first = mul_swap d s e in
    let none : (d *ℤ e) +ℤ pos 0 ≡ d *ℤ e = omega (arith, ints) in
    let whole = ap (λ z. s *ℤ z) none in
    omega (arith, ints)

two_wrap : (s a b c d e f g h : ℤ) → (((a *ℤ g) +ℤ (b *ℤ h)) +ℤ ((c *ℤ (s *ℤ e)) +ℤ (d *ℤ (s *ℤ f)))) ≡ cyclic s (a ∷ b ∷ c ∷ d ∷ []) (e ∷ f ∷ g ∷ h ∷ []) 1
two_wrap s a b c d e f g h =
    let first = mul_swap c s e in
    let second = mul_swap d s f in
    let none : (c *ℤ e) +ℤ ((d *ℤ f) +ℤ pos 0) ≡ (c *ℤ e) +ℤ (d *ℤ f) = omega (arith, ints) in
    let whole = ap (λ z. s *ℤ z) none ∙ mul-add s (c *ℤ e) (d *ℤ f) in
    omega (arith, ints)

three_wrap : (s a b c d e f g h : ℤ) → (((a *ℤ h) +ℤ (b *ℤ (s *ℤ e))) +ℤ ((c *ℤ (s *ℤ f)) +ℤ (d *ℤ (s *ℤ g)))) ≡ cyclic s (a ∷ b ∷ c ∷ d ∷ []) (e ∷ f ∷ g ∷ h ∷ []) 0
three_wrap s a b c d e f g h =
    let first = mul_swap b s e in
    let second = mul_swap c s f in
    let third = mul_swap d s g in
    let none : (b *ℤ e) +ℤ ((c *ℤ f) +ℤ ((d *ℤ g) +ℤ pos 0)) ≡ (b *ℤ e) +ℤ ((c *ℤ f) +ℤ (d *ℤ g)) = omega (arith, ints) in
    let whole = ap (λ z. s *ℤ z) none ∙ mul-add s (b *ℤ e) ((c *ℤ f) +ℤ (d *ℤ g)) in
    omega (arith, ints, mul-add s (c *ℤ f) (d *ℤ g))

-- four products of which the factors are the same
products_same : (p x0 x1 x2 x3 y0 y1 y2 y3 a b c d e f g h : ℤ) → Same p x0 a → Same p x1 b → Same p x2 c → Same p x3 d → Same p y0 e → Same p y1 f → Same p y2 g → Same p y3 h →
    Same p (((x0 *ℤ y0) +ℤ (x1 *ℤ y1)) +ℤ ((x2 *ℤ y2) +ℤ (x3 *ℤ y3))) (((a *ℤ e) +ℤ (b *ℤ f)) +ℤ ((c *ℤ g) +ℤ (d *ℤ h)))
products_same p x0 x1 x2 x3 y0 y1 y2 y3 a b c d e f g h i j k l m n o q =
    same_add p ((x0 *ℤ y0) +ℤ (x1 *ℤ y1)) ((a *ℤ e) +ℤ (b *ℤ f)) ((x2 *ℤ y2) +ℤ (x3 *ℤ y3)) ((c *ℤ g) +ℤ (d *ℤ h))
    (same_add p (x0 *ℤ y0) (a *ℤ e) (x1 *ℤ y1) (b *ℤ f) (same_product p x0 a y0 e i m) (same_product p x1 b y1 f j n))
    (same_add p (x2 *ℤ y2) (c *ℤ g) (x3 *ℤ y3) (d *ℤ h) (same_product p x2 c y2 g k o) (same_product p x3 d y3 h l q))

-- what is a factor times a number is the factor times one that is the same
scaled_sum : (p : ℤ) (factor r n : ℕ) (z : ℤ) → Same p (pos r) (pos factor *ℤ pos n) → Same p (pos n) z → Same p (pos r) (pos factor *ℤ z)
scaled_sum p factor r n z is same = same_on p (pos r) (pos factor *ℤ pos n) (pos factor *ℤ z) is (same_mul p (pos factor) (pos n) z same)

-- the sums that the code makes, the last one first
abbrev pub leaf_sums : List ℕ → List ℕ → List ℕ → List ℕ
leaf_sums xs ws zs =
    ((get_or xs 0 0 * get_or ws 0 0 + get_or xs 1 0 * get_or ws 1 0) + (get_or xs 2 0 * get_or ws 2 0 + get_or xs 3 0 * get_or ws 3 0))
    ∷ ((get_or xs 0 0 * get_or ws 1 0 + get_or xs 1 0 * get_or ws 2 0) + (get_or xs 2 0 * get_or ws 3 0 + get_or xs 3 0 * get_or zs 0 0))
    ∷ ((get_or xs 0 0 * get_or ws 2 0 + get_or xs 1 0 * get_or ws 3 0) + (get_or xs 2 0 * get_or zs 0 0 + get_or xs 3 0 * get_or zs 1 0))
    ∷ ((get_or xs 0 0 * get_or ws 3 0 + get_or xs 1 0 * get_or zs 0 0) + (get_or xs 2 0 * get_or zs 1 0 + get_or xs 3 0 * get_or zs 2 0))
    ∷ []

pub leaf_product : (p factor : ℕ) (s : ℤ) (a h : List ℤ) (xs ws zs rs : List ℕ) → length a ≡ 4 → length h ≡ 4 →
    ((k : ℕ) → k < 4 → Same (pos p) (pos (get_or xs k 0)) (get_or a k (pos 0))) →
    ((k : ℕ) → k < 4 → Same (pos p) (pos (get_or ws k 0)) (get_or h k (pos 0))) →
    ((k : ℕ) → k < 4 → Same (pos p) (pos (get_or zs k 0)) (s *ℤ pos (get_or ws k 0))) →
    ((k : ℕ) → k < 4 → Same (pos p) (pos (get_or rs k 0)) (pos factor *ℤ pos (get_or (leaf_sums xs ws zs) k 0))) →
    IsProduct p 1 factor s a h (get_or rs 3 0 ∷ get_or rs 2 0 ∷ get_or rs 1 0 ∷ get_or rs 0 0 ∷ [])
leaf_product p factor s (a ∷ b ∷ c ∷ d ∷ []) (e ∷ f ∷ g ∷ h ∷ []) xs ws zs rs a_long h_long x w z r =
    let m : ℤ = pos p in
    let x0 = x 0 (omega arith) in
    let x1 = x 1 (omega arith) in
    let x2 = x 2 (omega arith) in
    let x3 = x 3 (omega arith) in
    let w0 = w 0 (omega arith) in
    let w1 = w 1 (omega arith) in
    let w2 = w 2 (omega arith) in
    let w3 = w 3 (omega arith) in
    let z0 : Same m (pos (get_or zs 0 0)) (s *ℤ e) = same_on m (pos (get_or zs 0 0)) (s *ℤ pos (get_or ws 0 0)) (s *ℤ e) (z 0 (omega arith)) (same_mul m s (pos (get_or ws 0 0)) e w0) in
    let z1 : Same m (pos (get_or zs 1 0)) (s *ℤ f) = same_on m (pos (get_or zs 1 0)) (s *ℤ pos (get_or ws 1 0)) (s *ℤ f) (z 1 (omega arith)) (same_mul m s (pos (get_or ws 1 0)) f w1) in
    let z2 : Same m (pos (get_or zs 2 0)) (s *ℤ g) = same_on m (pos (get_or zs 2 0)) (s *ℤ pos (get_or ws 2 0)) (s *ℤ g) (z 2 (omega arith)) (same_mul m s (pos (get_or ws 2 0)) g w2) in
    each_of_four (λ i. Same m (pos (get_or (get_or rs 3 0 ∷ get_or rs 2 0 ∷ get_or rs 1 0 ∷ get_or rs 0 0 ∷ []) i 0)) (pos factor *ℤ cyclic s (a ∷ b ∷ c ∷ d ∷ []) (e ∷ f ∷ g ∷ h ∷ []) i))
    (scaled_sum m factor (get_or rs 3 0) (get_or (leaf_sums xs ws zs) 3 0) (cyclic s (a ∷ b ∷ c ∷ d ∷ []) (e ∷ f ∷ g ∷ h ∷ []) 0) (r 3 (omega arith)) (same_on m _ _ _ (products_same m _ _ _ _ _ _ _ _ a b c d h (s *ℤ e) (s *ℤ f) (s *ℤ g) x0 x1 x2 x3 w3 z0 z1 z2) (same_is m _ _ (three_wrap s a b c d e f g h))))
    (scaled_sum m factor (get_or rs 2 0) (get_or (leaf_sums xs ws zs) 2 0) (cyclic s (a ∷ b ∷ c ∷ d ∷ []) (e ∷ f ∷ g ∷ h ∷ []) 1) (r 2 (omega arith)) (same_on m _ _ _ (products_same m _ _ _ _ _ _ _ _ a b c d g h (s *ℤ e) (s *ℤ f) x0 x1 x2 x3 w2 w3 z0 z1) (same_is m _ _ (two_wrap s a b c d e f g h))))
    (scaled_sum m factor (get_or rs 1 0) (get_or (leaf_sums xs ws zs) 1 0) (cyclic s (a ∷ b ∷ c ∷ d ∷ []) (e ∷ f ∷ g ∷ h ∷ []) 2) (r 1 (omega arith)) (same_on m _ _ _ (products_same m _ _ _ _ _ _ _ _ a b c d f g h (s *ℤ e) x0 x1 x2 x3 w1 w2 w3 z0) (same_is m _ _ (one_wraps s a b c d e f g h))))
    (scaled_sum m factor (get_or rs 0 0) (get_or (leaf_sums xs ws zs) 0 0) (cyclic s (a ∷ b ∷ c ∷ d ∷ []) (e ∷ f ∷ g ∷ h ∷ []) 3) (r 0 (omega arith)) (same_on m _ _ _ (products_same m _ _ _ _ _ _ _ _ a b c d e f g h x0 x1 x2 x3 w0 w1 w2 w3) (same_is m _ _ (none_wrap s a b c d e f g h))))
leaf_product p factor s _ _ xs ws zs rs a_long h_long x w z r = absurd (omega arith)

-- the same with the list backwards, as the code makes it
pub leaf_reversed : (p factor : ℕ) (s : ℤ) (a h : List ℤ) (xs ws zs rs : List ℕ) → length a ≡ 4 → length h ≡ 4 → length rs ≡ 4 →
    ((k : ℕ) → k < 4 → Same (pos p) (pos (get_or xs k 0)) (get_or a k (pos 0))) →
    ((k : ℕ) → k < 4 → Same (pos p) (pos (get_or ws k 0)) (get_or h k (pos 0))) →
    ((k : ℕ) → k < 4 → Same (pos p) (pos (get_or zs k 0)) (s *ℤ pos (get_or ws k 0))) →
    ((k : ℕ) → k < 4 → Same (pos p) (pos (get_or rs k 0)) (pos factor *ℤ pos (get_or (leaf_sums xs ws zs) k 0))) →
    IsProduct p 1 factor s a h (get_or (rs ++ rs) 3 0 ∷ get_or (rs ++ rs) 2 0 ∷ get_or (rs ++ rs) 1 0 ∷ get_or (rs ++ rs) 0 0 ∷ [])
leaf_reversed p factor s a h xs ws zs rs a_long h_long four x w z r =
    by_four (λ rs. ((k : ℕ) → k < 4 → Same (pos p) (pos (get_or rs k 0)) (pos factor *ℤ pos (get_or (leaf_sums xs ws zs) k 0))) → IsProduct p 1 factor s a h (get_or (rs ++ rs) 3 0 ∷ get_or (rs ++ rs) 2 0 ∷ get_or (rs ++ rs) 1 0 ∷ get_or (rs ++ rs) 0 0 ∷ []))
    (λ b c d e same. leaf_product p factor s a h xs ws zs (b ∷ c ∷ d ∷ e ∷ []) a_long h_long x w z same) rs four r

-- ---- the numbers of a leaf from a place of the table of leaves on

-- four numbers of a list from a place on
abbrev pub four_from : List ℕ → ℕ → List ℕ
four_from g n = get_or g (n + 0) 0 ∷ get_or g (n + 1) 0 ∷ get_or g (n + 2) 0 ∷ get_or g (n + 3) 0 ∷ []

pub at_four : (g : List ℕ) (n k : ℕ) → k < 4 → get_or (four_from g n) k 0 ≡ get_or g (n + k) 0
at_four g n = each_of_four (λ k. get_or (four_from g n) k 0 ≡ get_or g (n + k) 0) refl refl refl refl

-- the products that the code makes: of each number, and the four of the leaf that stand as far on as it does
pub record LeafProducts (g : List ℕ) (at : ℕ) (xs one two three four : List ℕ) : Type 0 where
  pub first : (k : ℕ) → k < 4 → get_or one k 0 ≡ get_or xs 0 0 * get_or g (at + k) 0
  pub second : (k : ℕ) → k < 4 → get_or two k 0 ≡ get_or xs 1 0 * get_or g (at + 1 + k) 0
  pub third : (k : ℕ) → k < 4 → get_or three k 0 ≡ get_or xs 2 0 * get_or g (at + 2 + k) 0
  pub fourth : (k : ℕ) → k < 4 → get_or four k 0 ≡ get_or xs 3 0 * get_or g (at + 3 + k) 0

-- one number in four lanes
abbrev lane_of : List ℕ → ℕ → List ℕ
lane_of xs j = get_or (xs ++ xs) j 0 ∷ get_or (xs ++ xs) j 0 ∷ get_or (xs ++ xs) j 0 ∷ get_or (xs ++ xs) j 0 ∷ []

-- products by loaded numbers, lane by lane
abbrev LoadedProducts : List ℕ → ℕ → List ℕ → ℕ → List ℕ → List ℕ → Type 0
LoadedProducts g n xs j lanes rs = ((k : ℕ) → k < 4 → get_or lanes k 0 ≡ get_or g (n + k) 0) → ((k : ℕ) → k < 4 → get_or rs k 0 ≡ get_or (lane_of xs j) k 0 * get_or lanes k 0) →
    (k : ℕ) → k < 4 → get_or rs k 0 ≡ get_or xs j 0 * get_or g (n + k) 0

loaded_product : (g : List ℕ) (n : ℕ) (xs : List ℕ) (j : ℕ) (lanes rs : List ℕ) → length xs ≡ 4 → j < 4 → LoadedProducts g n xs j lanes rs
loaded_product g n xs j lanes rs long lt loaded are k l =
    let here : get_or (xs ++ xs) j 0 ≡ get_or xs j 0 = get_or_append_left xs xs 0 j (omega arith) in
    let lane : get_or (lane_of xs j) k 0 ≡ get_or xs j 0 = each_of_four (λ k. get_or (lane_of xs j) k 0 ≡ get_or xs j 0) here here here here k l in
    are k l ∙ rw (lane, loaded k l) refl

pub leaf_products : (g : List ℕ) (at : ℕ) (xs l0 l1 l2 l3 one two three four : List ℕ) → length xs ≡ 4 →
    ((k : ℕ) → k < 4 → get_or l0 k 0 ≡ get_or g (at + k) 0) → ((k : ℕ) → k < 4 → get_or l1 k 0 ≡ get_or g (at + 1 + k) 0) →
    ((k : ℕ) → k < 4 → get_or l2 k 0 ≡ get_or g (at + 2 + k) 0) → ((k : ℕ) → k < 4 → get_or l3 k 0 ≡ get_or g (at + 3 + k) 0) →
    ((k : ℕ) → k < 4 → get_or one k 0 ≡ get_or (lane_of xs 0) k 0 * get_or l0 k 0) → ((k : ℕ) → k < 4 → get_or two k 0 ≡ get_or (lane_of xs 1) k 0 * get_or l1 k 0) →
    ((k : ℕ) → k < 4 → get_or three k 0 ≡ get_or (lane_of xs 2) k 0 * get_or l2 k 0) → ((k : ℕ) → k < 4 → get_or four k 0 ≡ get_or (lane_of xs 3) k 0 * get_or l3 k 0) →
    LeafProducts g at xs one two three four
leaf_products g at xs l0 l1 l2 l3 one two three four long a b c d o t h f = record {
  first = loaded_product g at xs 0 l0 one long (omega arith) a o;
  second = loaded_product g (at + 1) xs 1 l1 two long (omega arith) b t;
  third = loaded_product g (at + 2) xs 2 l2 three long (omega arith) c h;
  fourth = loaded_product g (at + 3) xs 3 l3 four long (omega arith) d f;
}

-- sums of four, lane by lane
abbrev pub LaneSums : List ℕ → List ℕ → List ℕ → List ℕ → List ℕ → Type 0
LaneSums one two three four sums = (k : ℕ) → k < 4 → get_or sums k 0 ≡ (get_or one k 0 + get_or two k 0) + (get_or three k 0 + get_or four k 0)

sum_is : (a b c d s t u v w : ℕ) → s ≡ (a + b) + (c + d) → a ≡ t → b ≡ u → c ≡ v → d ≡ w → s ≡ (t + u) + (v + w)
sum_is a b c d s t u v w is i j k l = omega (arith, is, i, j, k, l)

from_place : (g : List ℕ) (x r m n : ℕ) → r ≡ x * get_or g m 0 → m ≡ n → r ≡ x * get_or g n 0
from_place g x r m n is e = rw (← e) is

-- the sums of the code are those of the four numbers and, wrapped, the four after them
pub leaf_sums_are : (g : List ℕ) (at : ℕ) (xs one two three four sums : List ℕ) → LeafProducts g at xs one two three four → LaneSums one two three four sums →
    (k : ℕ) → k < 4 → get_or sums k 0 ≡ get_or (leaf_sums xs (four_from g at) (four_from g (at + 4))) k 0
leaf_sums_are g at xs one two three four sums are s =
    each_of_four (λ k. get_or sums k 0 ≡ get_or (leaf_sums xs (four_from g at) (four_from g (at + 4))) k 0)
    (sum_is _ _ _ _ _ _ _ _ _ (s 0 (omega arith)) (are.first 0 (omega arith)) (from_place g _ _ _ (at + 1) (are.second 0 (omega arith)) (omega arith)) (from_place g _ _ _ (at + 2) (are.third 0 (omega arith)) (omega arith)) (from_place g _ _ _ (at + 3) (are.fourth 0 (omega arith)) (omega arith)))
    (sum_is _ _ _ _ _ _ _ _ _ (s 1 (omega arith)) (are.first 1 (omega arith)) (from_place g _ _ _ (at + 2) (are.second 1 (omega arith)) (omega arith)) (from_place g _ _ _ (at + 3) (are.third 1 (omega arith)) (omega arith)) (from_place g _ _ _ (at + 4 + 0) (are.fourth 1 (omega arith)) (omega arith)))
    (sum_is _ _ _ _ _ _ _ _ _ (s 2 (omega arith)) (are.first 2 (omega arith)) (from_place g _ _ _ (at + 3) (are.second 2 (omega arith)) (omega arith)) (from_place g _ _ _ (at + 4 + 0) (are.third 2 (omega arith)) (omega arith)) (from_place g _ _ _ (at + 4 + 1) (are.fourth 2 (omega arith)) (omega arith)))
    (sum_is _ _ _ _ _ _ _ _ _ (s 3 (omega arith)) (are.first 3 (omega arith)) (from_place g _ _ _ (at + 4 + 0) (are.second 3 (omega arith)) (omega arith)) (from_place g _ _ _ (at + 4 + 1) (are.third 3 (omega arith)) (omega arith)) (from_place g _ _ _ (at + 4 + 2) (are.fourth 3 (omega arith)) (omega arith)))

-- ---- sizes

-- the product of a number below 22 times the modulus and a remainder is less than 22 times its square, by the modulus
product_less : (p x y r : ℕ) → 0 < p → r ≡ x * y → x < 22 * p → y < p → r + p ≤ 22 * p * p
product_less p x y r some is first second =
    let less : 22 * p ≡ (22 * p - 1) + 1 = omega (arith, some) in
    let whole : 22 * p * p ≡ ((22 * p - 1) + 1) * p = ap (λ n. n * p) less in
    let product = mul-le x y (22 * p - 1) p (omega (arith, first)) (omega (arith, second)) in
    omega (arith, is, product, whole)

-- each of the four products is less than 22 times the square of the modulus, by the modulus
pub four_products_less : (p : ℕ) (g : List ℕ) (at : ℕ) (xs one two three four : List ℕ) → 0 < p → AreFour (22 * p) xs → at + 8 ≤ length g → AreRemainders p g → LeafProducts g at xs one two three four →
    (k : ℕ) → k < 4 → (get_or one k 0 + p ≤ 22 * p * p) × (get_or two k 0 + p ≤ 22 * p * p) × (get_or three k 0 + p ≤ 22 * p * p) × (get_or four k 0 + p ≤ 22 * p * p)
four_products_less p g at xs one two three four some x inside are products k l = (
  product_less p _ _ _ some (products.first k l) (x.less 0 (omega arith)) (are (at + k) (omega arith)),
  product_less p _ _ _ some (products.second k l) (x.less 1 (omega arith)) (are (at + 1 + k) (omega arith)),
  product_less p _ _ _ some (products.third k l) (x.less 2 (omega arith)) (are (at + 2 + k) (omega arith)),
  product_less p _ _ _ some (products.fourth k l) (x.less 3 (omega arith)) (are (at + 3 + k) (omega arith)),
)
