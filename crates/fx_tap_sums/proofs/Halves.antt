-- The product modulo x^2m - s and a number p, by two products modulo x^m - r and x^m + r, where r is a root of s.
use Rattle.std.proofs.Common.{◌≡◌, ℕ, ◌+◌, ◌*◌, ◌-◌, ◌<◌, ap, ◌∙◌, refl, arith, ℤ, pos, neg_ℤ, ◌*ℤ◌, ◌+ℤ◌, List, ◌++◌, length, drop, ◌-ℤ◌}
use Rattle.std.proofs.lemmas.Int.{ints}
use Rattle.std.proofs.lemmas.List.{length-drop}
use borrow.Author.Differences.{product_is}
use Rattle.fx_tap_sums.specs.Products.{sum_of_products}
use Rattle.fx_tap_sums.specs.Residues.{Same}
use Rattle.fx_tap_sums.specs.Transform.{cyclic, combined}
use Rattle.fx_tap_sums.proofs.Numbers.{mul-add, add-mul, mul_assoc, mul_swap, neg-mul, neg-square}
use Rattle.fx_tap_sums.proofs.Residues.{same_refl, same_is, same_on, same_add, same_mul, same_times}
use Rattle.fx_tap_sums.proofs.Cyclic.{combined_left, combined_right, length-combined, drop-combined, stays, round, first_half, second_half}

-- ---- one step, exactly

flat : (r a0 a1 b0 b1 c0 c1 d0 d1 : ℤ) →
    ((a0 +ℤ (r *ℤ a1)) +ℤ (r *ℤ (b0 +ℤ (r *ℤ b1)))) +ℤ (r *ℤ ((c0 +ℤ (r *ℤ c1)) +ℤ (r *ℤ (d0 +ℤ (r *ℤ d1)))))
    ≡ (a0 +ℤ ((r *ℤ r) *ℤ (c1 +ℤ (b1 +ℤ d0)))) +ℤ (r *ℤ ((a1 +ℤ (c0 +ℤ b0)) +ℤ ((r *ℤ r) *ℤ d1)))
flat r a0 a1 b0 b1 c0 c1 d0 d1 =
    let e1 = mul-add r b0 (r *ℤ b1) in
    let e2 = ap (λ z. r *ℤ ((c0 +ℤ (r *ℤ c1)) +ℤ z)) (mul-add r d0 (r *ℤ d1)) in
    let e3 = mul-add r (c0 +ℤ (r *ℤ c1)) ((r *ℤ d0) +ℤ (r *ℤ (r *ℤ d1))) in
    let e4 = mul-add r c0 (r *ℤ c1) in
    let e5 = mul-add r (r *ℤ d0) (r *ℤ (r *ℤ d1)) in
    let f0 = mul_assoc r r (c1 +ℤ (b1 +ℤ d0)) in
    let f1 = ap (λ z. r *ℤ z) (mul-add r c1 (b1 +ℤ d0)) in
    let f2 = mul-add r (r *ℤ c1) (r *ℤ (b1 +ℤ d0)) in
    let f3 = ap (λ z. r *ℤ z) (mul-add r b1 d0) in
    let f4 = mul-add r (r *ℤ b1) (r *ℤ d0) in
    let f5 = mul-add r (a1 +ℤ (c0 +ℤ b0)) ((r *ℤ r) *ℤ d1) in
    let f6 = ap (λ z. r *ℤ z) (mul_assoc r r d1) in
    omega (arith, ints, mul-add r a1 (c0 +ℤ b0), mul-add r c0 b0)

-- the product modulo x^m - r of what is left of a and b there is what is left of their product modulo x^2m - r*r
pub folded : (m i : ℕ) (r : ℤ) (a b h g : List ℤ) → length a ≡ m → length b ≡ m → length h ≡ m → length g ≡ m → i < m →
    cyclic r (combined r a b) (combined r g h) i ≡ cyclic (r *ℤ r) (a ++ b) (h ++ g) i +ℤ (r *ℤ cyclic (r *ℤ r) (a ++ b) (h ++ g) (m + i))
folded m i r a b h g a_long b_long h_long g_long lt =
    let g_size : length (combined r g h) ≡ length g = length-combined r g h (omega arith) in
    let k : ℕ = length g - 1 - i in
    let same : k ≡ length h - 1 - i = omega arith in
    let g_left = length-drop k g in
    let h_left = length-drop k h in
    let cut = drop-combined k r g h (omega arith) in
    let a_left = length-drop (i + 1) a in
    let b_left = length-drop (i + 1) b in
    let a_cut = drop-combined (i + 1) r a b (omega arith) in
    let kept : sum_of_products (combined r a b) (drop k (combined r g h)) ≡ (stays a g i +ℤ (r *ℤ stays a h i)) +ℤ (r *ℤ (stays b g i +ℤ (r *ℤ stays b h i))) =
    rw (cut, combined_left r a b (combined r (drop k g) (drop k h)) (omega arith), combined_right r a (drop k g) (drop k h) (omega arith), combined_right r b (drop k g) (drop k h) (omega arith), ← same) refl in
    let came : sum_of_products (drop (i + 1) (combined r a b)) (combined r g h) ≡ (round a g i +ℤ (r *ℤ round a h i)) +ℤ (r *ℤ (round b g i +ℤ (r *ℤ round b h i))) =
    rw (a_cut, combined_left r (drop (i + 1) a) (drop (i + 1) b) (combined r g h) (omega arith), combined_right r (drop (i + 1) a) g h (omega arith), combined_right r (drop (i + 1) b) g h (omega arith)) refl in
    let first = first_half m i (r *ℤ r) a b h g a_long b_long h_long g_long lt in
    let second = second_half m i (r *ℤ r) a b h g a_long b_long h_long g_long lt in
    rw (g_size, kept, came, first, second) (flat r (stays a g i) (stays a h i) (stays b g i) (stays b h i) (round a g i) (round a h i) (round b g i) (round b h i))

-- ---- modulo p

-- the same root modulo p
pub same_cyclic : (p s t : ℤ) (a h : List ℤ) (i : ℕ) → Same p s t → Same p (cyclic s a h i) (cyclic t a h i)
same_cyclic p s t a h i same =
    same_add p (stays a h i) (stays a h i) (s *ℤ round a h i) (t *ℤ round a h i) (same_refl p (stays a h i)) (same_times p (round a h i) s t same)

twice : (m : ℕ) (c : ℤ) → pos (2 * m) *ℤ c ≡ (pos m *ℤ c) +ℤ (pos m *ℤ c)
twice m c =
    let double : pos (2 * m) ≡ pos m +ℤ pos m = ap pos (omega arith) in
    ap (λ z. z *ℤ c) double ∙ add-mul (pos m) (pos m) c

-- from c + r*d and c - r*d to twice c and twice d
back_sum : (p r c d u v : ℤ) → Same p u (c +ℤ (r *ℤ d)) → Same p v (c +ℤ (neg_ℤ r *ℤ d)) → Same p (u +ℤ v) (c +ℤ c)
back_sum p r c d u v u_is v_is =
    let turned = neg-mul r d in
    let order : (c +ℤ (r *ℤ d)) +ℤ (c +ℤ (neg_ℤ r *ℤ d)) ≡ c +ℤ c = omega (arith, ints) in
    same_on p (u +ℤ v) _ (c +ℤ c) (same_add p u (c +ℤ (r *ℤ d)) v (c +ℤ (neg_ℤ r *ℤ d)) u_is v_is) (same_is p _ (c +ℤ c) order)

back_difference : (p r w c d u v : ℤ) → Same p (w *ℤ r) (pos 1) → Same p u (c +ℤ (r *ℤ d)) → Same p v (c +ℤ (neg_ℤ r *ℤ d)) → Same p (w *ℤ (u -ℤ v)) (d +ℤ d)
back_difference p r w c d u v inverse u_is v_is =
    let v_turned = neg-mul (pos 1) v in
    let one_v = product_is (pos 1) v in
    let minus : u -ℤ v ≡ u +ℤ (neg_ℤ (pos 1) *ℤ v) = omega (arith, ints) in
    let turned = neg-mul r d in
    let minus_two = neg-mul (pos 1) (c +ℤ (neg_ℤ r *ℤ d)) in
    let one_two = product_is (pos 1) (c +ℤ (neg_ℤ r *ℤ d)) in
    let order : (c +ℤ (r *ℤ d)) +ℤ (neg_ℤ (pos 1) *ℤ (c +ℤ (neg_ℤ r *ℤ d))) ≡ (r *ℤ d) +ℤ (r *ℤ d) = omega (arith, ints) in
    let apart : Same p (u +ℤ (neg_ℤ (pos 1) *ℤ v)) ((c +ℤ (r *ℤ d)) +ℤ (neg_ℤ (pos 1) *ℤ (c +ℤ (neg_ℤ r *ℤ d)))) =
    same_add p u (c +ℤ (r *ℤ d)) (neg_ℤ (pos 1) *ℤ v) (neg_ℤ (pos 1) *ℤ (c +ℤ (neg_ℤ r *ℤ d))) u_is (same_mul p (neg_ℤ (pos 1)) v (c +ℤ (neg_ℤ r *ℤ d)) v_is) in
    let difference : Same p (u -ℤ v) ((r *ℤ d) +ℤ (r *ℤ d)) = rw (minus, ← order) apart in
    let scaled = same_mul p w (u -ℤ v) ((r *ℤ d) +ℤ (r *ℤ d)) difference in
    let once : Same p (w *ℤ (r *ℤ d)) d =
    let moved = mul_assoc w r d in
    let one_d = product_is (pos 1) d in
    let unit : pos 1 *ℤ d ≡ d = omega (arith, ints) in
    same_on p (w *ℤ (r *ℤ d)) ((w *ℤ r) *ℤ d) d (same_is p (w *ℤ (r *ℤ d)) ((w *ℤ r) *ℤ d) moved) (same_on p ((w *ℤ r) *ℤ d) (pos 1 *ℤ d) d (same_times p d (w *ℤ r) (pos 1) inverse) (same_is p (pos 1 *ℤ d) d unit)) in
    same_on p (w *ℤ (u -ℤ v)) _ (d +ℤ d) scaled
    (same_on p (w *ℤ ((r *ℤ d) +ℤ (r *ℤ d))) ((w *ℤ (r *ℤ d)) +ℤ (w *ℤ (r *ℤ d))) (d +ℤ d) (same_is p _ _ (mul-add w (r *ℤ d) (r *ℤ d))) (same_add p (w *ℤ (r *ℤ d)) d (w *ℤ (r *ℤ d)) d once once))

folded_same : (m t i : ℕ) (p s r : ℤ) (a b h g : List ℤ) → length a ≡ m → length b ≡ m → length h ≡ m → length g ≡ m → i < m → Same p (r *ℤ r) s →
    Same p (pos t *ℤ cyclic r (combined r a b) (combined r g h) i) ((pos t *ℤ cyclic s (a ++ b) (h ++ g) i) +ℤ (r *ℤ (pos t *ℤ cyclic s (a ++ b) (h ++ g) (m + i))))
folded_same m t i p s r a b h g a_long b_long h_long g_long lt square =
    let c0 : ℤ = cyclic (r *ℤ r) (a ++ b) (h ++ g) i in
    let c1 : ℤ = cyclic (r *ℤ r) (a ++ b) (h ++ g) (m + i) in
    let d0 : ℤ = cyclic s (a ++ b) (h ++ g) i in
    let d1 : ℤ = cyclic s (a ++ b) (h ++ g) (m + i) in
    let exact : pos t *ℤ cyclic r (combined r a b) (combined r g h) i ≡ (pos t *ℤ c0) +ℤ (r *ℤ (pos t *ℤ c1)) =
    ap (λ z. pos t *ℤ z) (folded m i r a b h g a_long b_long h_long g_long lt) ∙ mul-add (pos t) c0 (r *ℤ c1) ∙ ap (λ z. (pos t *ℤ c0) +ℤ z) (mul_swap (pos t) r c1) in
    let first : Same p c0 d0 = same_cyclic p (r *ℤ r) s (a ++ b) (h ++ g) i square in
    let second : Same p c1 d1 = same_cyclic p (r *ℤ r) s (a ++ b) (h ++ g) (m + i) square in
    same_on p _ ((pos t *ℤ c0) +ℤ (r *ℤ (pos t *ℤ c1))) _ (same_is p _ _ exact)
    (same_add p (pos t *ℤ c0) (pos t *ℤ d0) (r *ℤ (pos t *ℤ c1)) (r *ℤ (pos t *ℤ d1)) (same_mul p (pos t) c0 d0 first) (same_mul p r (pos t *ℤ c1) (pos t *ℤ d1) (same_mul p (pos t) c1 d1 second)))

square_of : (p r q s : ℤ) → Same p (r *ℤ r) s → Same p q (neg_ℤ r) → Same p (q *ℤ q) s
square_of p r q s square negative =
    same_on p (q *ℤ q) (neg_ℤ r *ℤ q) s (same_times p q q (neg_ℤ r) negative)
    (same_on p (neg_ℤ r *ℤ q) (neg_ℤ r *ℤ neg_ℤ r) s (same_mul p (neg_ℤ r) q (neg_ℤ r) negative)
    (same_on p (neg_ℤ r *ℤ neg_ℤ r) (r *ℤ r) s (same_is p _ _ (neg-square r)) square))

-- the products by r and by its negative, each m times
abbrev pub halves_left : ℕ → ℤ → List ℤ → List ℤ → List ℤ → List ℤ → ℕ → ℤ
halves_left t r a b h g i = pos t *ℤ cyclic r (combined r a b) (combined r g h) i

both : (m t i : ℕ) (p s r : ℤ) (a b h g : List ℤ) (v : ℤ) → length a ≡ m → length b ≡ m → length h ≡ m → length g ≡ m → i < m → Same p (r *ℤ r) s →
    Same p v (halves_left t (neg_ℤ r) a b h g i) →
    Same p v ((pos t *ℤ cyclic s (a ++ b) (h ++ g) i) +ℤ (neg_ℤ r *ℤ (pos t *ℤ cyclic s (a ++ b) (h ++ g) (m + i))))
both m t i p s r a b h g v a_long b_long h_long g_long lt square v_is =
    same_on p _ _ _ v_is (folded_same m t i p s (neg_ℤ r) a b h g a_long b_long h_long g_long lt (square_of p r (neg_ℤ r) s square (same_refl p (neg_ℤ r))))

-- number i of the product, for i in the first half
pub low_half : (m t i : ℕ) (p s r : ℤ) (a b h g : List ℤ) (u v : ℤ) → length a ≡ m → length b ≡ m → length h ≡ m → length g ≡ m → i < m → Same p (r *ℤ r) s →
    Same p u (halves_left t r a b h g i) → Same p v (halves_left t (neg_ℤ r) a b h g i) →
    Same p (u +ℤ v) (pos (2 * t) *ℤ cyclic s (a ++ b) (h ++ g) i)
low_half m t i p s r a b h g u v a_long b_long h_long g_long lt square u_is v_is =
    let c : ℕ → ℤ = λ k. pos t *ℤ cyclic s (a ++ b) (h ++ g) k in
    rw (twice t (cyclic s (a ++ b) (h ++ g) i))
    (back_sum p r (c i) (c (m + i)) u v (same_on p _ _ _ u_is (folded_same m t i p s r a b h g a_long b_long h_long g_long lt square)) (both m t i p s r a b h g v a_long b_long h_long g_long lt square v_is))

-- and in the second
pub high_half : (m t i : ℕ) (p s r w : ℤ) (a b h g : List ℤ) (u v : ℤ) → length a ≡ m → length b ≡ m → length h ≡ m → length g ≡ m → i < m → Same p (r *ℤ r) s → Same p (w *ℤ r) (pos 1) →
    Same p u (halves_left t r a b h g i) → Same p v (halves_left t (neg_ℤ r) a b h g i) →
    Same p (w *ℤ (u -ℤ v)) (pos (2 * t) *ℤ cyclic s (a ++ b) (h ++ g) (m + i))
high_half m t i p s r w a b h g u v a_long b_long h_long g_long lt square inverse u_is v_is =
    let c : ℕ → ℤ = λ k. pos t *ℤ cyclic s (a ++ b) (h ++ g) k in
    rw (twice t (cyclic s (a ++ b) (h ++ g) (m + i)))
    (back_difference p r w (c i) (c (m + i)) u v inverse (same_on p _ _ _ u_is (folded_same m t i p s r a b h g a_long b_long h_long g_long lt square)) (both m t i p s r a b h g v a_long b_long h_long g_long lt square v_is))
