-- One step of a transform of 2^levels times four numbers, and what each half is.
use Rattle.std.proofs.Common.{◌≡◌, ◌+◌, ◌-◌, ◌*◌, ◌/◌, ◌^◌, ◌<◌, ◌≤◌, ◌∙◌, refl, ℕ, zero, suc, ℤ, pos, neg_ℤ, ◌*ℤ◌, ◌+ℤ◌, List, ◌∷◌, ◌++◌, length, get_or, take, drop, arith, ◌-ℤ◌, inl, inr}
use Rattle.std.proofs.Math.Nat.{pow-suc}
use Rattle.std.proofs.lemmas.Bool.{cases_lt}
use Rattle.std.proofs.lemmas.Nat.{mul-le, pow_below, pow_pos}
use Rattle.std.proofs.lemmas.Grind.{get_or_default_zero}
use Rattle.std.proofs.lemmas.List.{length-drop, length-take-le, take-append-drop, take_at, drop_at, get_or_append_left, get_or-append-add, get_or-take, get_or-drop}
use Rattle.fx_tap_sums.specs.Residues.{Same, AreRemainders, AreSame, IsModulus, inverse_of_word}
use Rattle.fx_tap_sums.specs.Transform.{AreRoots, IsTransform, IsProduct, combined, root_at}
use Rattle.fx_tap_sums.proofs.Residues.{same_on, same_add, same_mul}
use Rattle.fx_tap_sums.proofs.Cyclic.{length-combined}
use Rattle.fx_tap_sums.proofs.Halves.{low_half, high_half}
use Rattle.fx_tap_sums.proofs.Writes.{remainders_drop, remainders_take, remainders_wider}

-- ---- sizes

-- n is 2^levels times four, k is one level less, and m half of n
pub record Halved (levels n k m : ℕ) : Type 0 where
  pub level : levels ≡ suc k
  pub power : m ≡ 4 * 2 ^ k
  pub twice : n ≡ 2 * m
  pub some : 0 < m

pub halved : (levels n : ℕ) → n ≡ 4 * 2 ^ levels → 0 < levels → Halved levels n (levels - 1) (n / 2)
halved zero n is some = absurd (omega arith)
halved (suc k) n is some =
    let e : suc k - 1 ≡ k = omega arith in
    let double = pow-suc 2 k in
    let minimum = pow_pos k in
    let half : n / 2 ≡ 4 * 2 ^ k = omega arith in
    rw e (record { level = refl; power = half; twice = omega arith; some = omega arith })

pub place_less : (place n minimum : ℕ) → minimum ≤ n → (place + 1) * n ≤ 4096 → (place + 1) * minimum ≤ 4096
place_less place n minimum le bound =
    let self : place + 1 ≤ place + 1 = omega arith in
    omega (arith, mul-le (place + 1) minimum (place + 1) n self le)

pub eight_at_least : (levels n : ℕ) → n ≡ 4 * 2 ^ levels → 0 < levels → 8 ≤ n
eight_at_least levels n is some =
    let half = halved levels n is some in
    omega (arith, half.power, half.twice, pow_pos (levels - 1))

pub levels_bound : (levels n place : ℕ) → n ≡ 4 * 2 ^ levels → (place + 1) * n ≤ 4096 → levels ≤ 10
levels_bound levels n place is bound = elim (cases_lt 10 levels) [
  | inl more ↦
      let minimum : 2 ^ 10 < 2 ^ levels = pow_below 10 levels more in
      let fit = place_less place n 4100 (omega arith) bound in
      absurd (omega arith)
  | inr not ↦ omega arith
]

-- a bound of twice p for each level below the eleventh
pub level_bound : (levels p : ℕ) → 1 ≤ levels → levels ≤ 10 → (22 - 2 * levels) * p + 2 * p ≡ (22 - 2 * (levels - 1)) * p
level_bound levels p some limit =
    let next : 22 - 2 * (levels - 1) ≡ (22 - 2 * levels) + 2 = omega arith in
    rw next (omega arith)

pub level_less : (levels p : ℕ) → 1 ≤ levels → (22 - 2 * levels) * p ≤ 20 * p
level_less levels p some =
    let self : p ≤ p = omega arith in
    mul-le (22 - 2 * levels) p 20 p (omega arith) self

-- both halves of remainders below twenty times a modulus fit a step
pub halves_fit : (p m : ℕ) (v low high : List ℕ) → IsModulus p → m ≤ length v → low ≡ take m v → high ≡ drop m v → AreRemainders (20 * p) v → AreRemainders (2 ^ 32 - 2 * p) low × AreRemainders (2 ^ 32) high
halves_fit p m v low high modulus le front back are =
    let less : AreRemainders (2 ^ 32 - 2 * p) v = remainders_wider (20 * p) (2 ^ 32 - 2 * p) v (omega (arith, modulus)) are in
    let fits : AreRemainders (2 ^ 32) v = remainders_wider (20 * p) (2 ^ 32) v (omega (arith, modulus)) are in
    (rw front (remainders_take (2 ^ 32 - 2 * p) m v le less), rw back (remainders_drop (2 ^ 32) m v fits))

-- ---- lists

-- a number that was read is the one at its place
pub read_at : (xs : List ℕ) (place v : ℕ) → place < length xs → v ≡ get_or xs place v → v ≡ get_or xs place 0
read_at xs place v lt is = is ∙ get_or_default_zero xs place v lt

-- the inverse of a root, both read from their tables
pub inverse_read : (p : ℕ) (roots inverses : List ℕ) (place root inverse : ℕ) → AreRoots p roots inverses → place < 512 → length roots ≡ 512 → length inverses ≡ 512 → root ≡ get_or roots place root → inverse ≡ get_or inverses place inverse
    → Same (pos p) (pos inverse *ℤ pos root) (pos 1)
inverse_read p roots inverses place root inverse are less roots_long inverses_long root_is inverse_is =
    rw (read_at roots place root (omega arith) root_is, read_at inverses place inverse (omega arith) inverse_is) (are.inverse place less)

pub at_combined : (r : ℤ) (u v : List ℤ) (i : ℕ) → length u ≡ length v → i < length u → get_or (combined r u v) i (pos 0) ≡ get_or u i (pos 0) +ℤ (r *ℤ get_or v i (pos 0))
at_combined r (x ∷ u) (y ∷ v) zero long lt = refl
at_combined r (x ∷ u) (y ∷ v) (suc i) long lt = at_combined r u v i (omega arith) (omega arith)
at_combined r _ _ _ long lt = absurd (omega arith)

-- ---- transforms

pub transform_one : (p : ℕ) (roots : List ℕ) (levels place : ℕ) (h : List ℤ) (f : List ℕ) → levels ≡ 0 → AreSame p f h → IsTransform p roots levels place h f
unfolding IsTransform
transform_one p roots levels place h f none same = rw none same

pub one_transform : (p : ℕ) (roots : List ℕ) (levels place : ℕ) (h : List ℤ) (f : List ℕ) → levels ≡ 0 → IsTransform p roots levels place h f → AreSame p f h
unfolding IsTransform
one_transform p roots levels place h f none is = rw none at is

pub transform_both : (p : ℕ) (roots : List ℕ) (levels n k m place : ℕ) (h : List ℤ) (xs ys : List ℕ) → Halved levels n k m → length ys ≡ m →
    IsTransform p roots k (2 * place) (combined (root_at roots place) (drop m h) (take m h)) xs →
    IsTransform p roots k (2 * place + 1) (combined (neg_ℤ (root_at roots place)) (drop m h) (take m h)) ys →
    IsTransform p roots levels place h (ys ++ xs)
unfolding IsTransform
transform_both p roots levels n k m place h xs ys half long left right =
    let back = drop_at ys xs (4 * 2 ^ k) (omega (arith, half.power)) in
    let front = take_at ys xs (4 * 2 ^ k) (omega (arith, half.power)) in
    rw (half.level, back, front) (rw half.power at left, rw half.power at right)

pub both_transforms : (p : ℕ) (roots : List ℕ) (levels n k m place : ℕ) (h : List ℤ) (f : List ℕ) → Halved levels n k m → IsTransform p roots levels place h f →
    IsTransform p roots k (2 * place) (combined (root_at roots place) (drop m h) (take m h)) (drop m f)
    × IsTransform p roots k (2 * place + 1) (combined (neg_ℤ (root_at roots place)) (drop m h) (take m h)) (take m f)
unfolding IsTransform
both_transforms p roots levels n k m place h f half is = rw half.power (rw half.level at is)

-- what a step of a transform writes is the same as the lists combined
pub combined_same : (p : ℕ) (r : ℤ) (u v : List ℤ) (xs ys zs : List ℕ) → length u ≡ length v → length xs ≡ length u → length ys ≡ length u → length zs ≡ length u →
    AreSame p xs u → AreSame p ys v →
    ((i : ℕ) → i < length zs → Same (pos p) (pos (get_or zs i 0)) (pos (get_or xs i 0) +ℤ (r *ℤ pos (get_or ys i 0)))) →
    AreSame p zs (combined r u v)
combined_same p r u v xs ys zs long x_long y_long z_long first second is i lt =
    rw (at_combined r u v i long (omega arith))
    (same_on (pos p) _ _ _ (is i lt)
    (same_add (pos p) _ _ _ _ (first i (omega arith)) (same_mul (pos p) r _ _ (second i (omega arith)))))

pub same_front : (p m : ℕ) (xs : List ℕ) (u : List ℤ) → m ≤ length xs → AreSame p xs u → AreSame p (take m xs) (take m u)
same_front p m xs u bound same i lt =
    let long = length-take-le m xs bound in
    let below : i < m = omega arith in
    rw (get_or-take m xs i 0 below, get_or-take m u i (pos 0) below) (same i (omega arith))

pub same_back : (p m : ℕ) (xs : List ℕ) (u : List ℤ) → AreSame p xs u → AreSame p (drop m xs) (drop m u)
same_back p m xs u same i lt =
    let long = length-drop m xs in
    rw (get_or-drop m xs i 0, get_or-drop m u i (pos 0)) (same (m + i) (omega arith))

-- ---- products

-- a factor times the products of half the size makes twice the factor times that of the whole
pub product_at : (p m t f : ℕ) (s r w : ℤ) (a h : List ℤ) (u v zs : List ℕ) → m ≡ 4 * t → length a ≡ 2 * m → length h ≡ 2 * m →
    Same (pos p) (r *ℤ r) s → Same (pos p) (w *ℤ r) (pos 1) →
    IsProduct p t f r (combined r (take m a) (drop m a)) (combined r (drop m h) (take m h)) u →
    IsProduct p t f (neg_ℤ r) (combined (neg_ℤ r) (take m a) (drop m a)) (combined (neg_ℤ r) (drop m h) (take m h)) v →
    ((i : ℕ) → i < m → Same (pos p) (pos (get_or zs i 0)) (pos (get_or u i 0) +ℤ pos (get_or v i 0))) →
    ((i : ℕ) → i < m → Same (pos p) (pos (get_or zs (m + i) 0)) (w *ℤ (pos (get_or u i 0) -ℤ pos (get_or v i 0)))) →
    IsProduct p (2 * t) (2 * f) s a h zs
product_at p m t f s r w a h u v zs four a_long h_long square inverse left right plus minus i lt =
    let a0 = length-take-le m a (omega arith) in
    let a1 : length (drop m a) ≡ m = omega (arith, length-drop m a) in
    let h0 = length-take-le m h (omega arith) in
    let h1 : length (drop m h) ≡ m = omega (arith, length-drop m h) in
    elim (cases_lt i m) [
      | inl below ↦
          same_on (pos p) _ _ _ (plus i below)
          (rw (take-append-drop m a, take-append-drop m h) at (low_half m f i (pos p) s r (take m a) (drop m a) (take m h) (drop m h) _ _ a0 a1 h0 h1 below square (left i (omega (arith, below, four))) (right i (omega (arith, below, four)))))
      | inr above ↦
          let below : i - m < m = omega arith in
          let place : m + (i - m) ≡ i = omega arith in
          same_on (pos p) _ _ _ (rw place at (minus (i - m) below))
          (rw (take-append-drop m a, take-append-drop m h, place) at (high_half m f (i - m) (pos p) s r w (take m a) (drop m a) (take m h) (drop m h) _ _ a0 a1 h0 h1 below square inverse (left (i - m) (omega (arith, below, four))) (right (i - m) (omega (arith, below, four)))))
    ]

pub product_both : (p m t f : ℕ) (s r w : ℤ) (a h : List ℤ) (u v xs ys : List ℕ) → m ≡ 4 * t → length a ≡ 2 * m → length h ≡ 2 * m → length xs ≡ m →
    Same (pos p) (r *ℤ r) s → Same (pos p) (w *ℤ r) (pos 1) →
    IsProduct p t f r (combined r (take m a) (drop m a)) (combined r (drop m h) (take m h)) u →
    IsProduct p t f (neg_ℤ r) (combined (neg_ℤ r) (take m a) (drop m a)) (combined (neg_ℤ r) (drop m h) (take m h)) v →
    ((i : ℕ) → i < m → Same (pos p) (pos (get_or xs i 0)) (pos (get_or u i 0) +ℤ pos (get_or v i 0))) →
    ((i : ℕ) → i < m → Same (pos p) (pos (get_or ys i 0)) (w *ℤ (pos (get_or u i 0) -ℤ pos (get_or v i 0)))) →
    IsProduct p (2 * t) (2 * f) s a h (xs ++ ys)
product_both p m t f s r w a h u v xs ys four a_long h_long long square inverse left right plus minus =
    product_at p m t f s r w a h u v (xs ++ ys) four a_long h_long square inverse left right
    (λ i lt. rw (get_or_append_left xs ys 0 i (omega arith)) (plus i lt))
    (λ i lt. let place : m + i ≡ length xs + i = omega arith in rw (place, get_or-append-add xs ys i 0) (minus i lt))

-- a step, the products of half the size by both halves of a transform, and the step back make the product of the whole
pub product_of_halves : (p levels n k m place root inverse : ℕ) (roots inverses v f low high front back xs ys us vs lows highs : List ℕ) →
    Halved levels n k m → AreRoots p roots inverses → place < 256 → root ≡ get_or roots place 0 → inverse ≡ get_or inverses place 0 →
    length v ≡ n → low ≡ take m v → high ≡ drop m v → front ≡ take m f → back ≡ drop m f → length xs ≡ m → length ys ≡ m → length lows ≡ m →
    ((i : ℕ) → i < length xs → Same (pos p) (pos (get_or xs i 0)) (pos (get_or low i 0) +ℤ (pos root *ℤ pos (get_or high i 0)))) →
    ((i : ℕ) → i < length xs → Same (pos p) (pos (get_or ys i 0)) (pos (get_or low i 0) +ℤ (neg_ℤ (pos root) *ℤ pos (get_or high i 0)))) →
    ((s : ℤ) (a h : List ℤ) → Same (pos p) (root_at roots (2 * place) *ℤ root_at roots (2 * place)) s → length a ≡ m → length h ≡ m → AreSame p xs a → IsTransform p roots k (2 * place) h back → IsProduct p (2 ^ k) (2 ^ k * inverse_of_word p) s a h us) →
    ((s : ℤ) (a h : List ℤ) → Same (pos p) (root_at roots (2 * place + 1) *ℤ root_at roots (2 * place + 1)) s → length a ≡ m → length h ≡ m → AreSame p ys a → IsTransform p roots k (2 * place + 1) h front → IsProduct p (2 ^ k) (2 ^ k * inverse_of_word p) s a h vs) →
    ((i : ℕ) → i < length lows → Same (pos p) (pos (get_or lows i 0)) (pos (get_or us i 0) +ℤ pos (get_or vs i 0))) →
    ((i : ℕ) → i < length lows → Same (pos p) (pos (get_or highs i 0)) (pos inverse *ℤ (pos (get_or us i 0) -ℤ pos (get_or vs i 0)))) →
    (s : ℤ) (a h : List ℤ) → Same (pos p) (root_at roots place *ℤ root_at roots place) s → length a ≡ n → length h ≡ n → AreSame p v a → IsTransform p roots levels place h f →
    IsProduct p (2 ^ levels) (2 ^ levels * inverse_of_word p) s a h (lows ++ highs)
product_of_halves p levels n k m place root inverse roots inverses v f low high front back xs ys us vs lows highs half are less root_is inverse_is v_long low_is high_is front_is back_is xs_long ys_long lows_long plus minus left right sum difference = λ s a h square a_long h_long same transform.
    let r : ℤ = root_at roots place in
    let twice = half.twice in
    let grown = pow-suc 2 k in
    let double : 2 ^ levels ≡ 2 * 2 ^ k = rw half.level (omega arith) in
    let low_long : length low ≡ m = rw low_is (length-take-le m v (omega arith)) in
    let high_size = length-drop m v in
    let high_long : length high ≡ m = rw high_is (omega arith) in
    let a_front = length-take-le m a (omega arith) in
    let a_back = length-drop m a in
    let h_front = length-take-le m h (omega arith) in
    let h_back = length-drop m h in
    let low_same : AreSame p low (take m a) = rw low_is (same_front p m v a (omega arith) same) in
    let high_same : AreSame p high (drop m a) = rw high_is (same_back p m v a same) in
    let x = combined_same p r (take m a) (drop m a) low high xs (omega arith) (omega arith) (omega arith) (omega arith) low_same high_same (rw root_is at plus) in
    let y = combined_same p (neg_ℤ r) (take m a) (drop m a) low high ys (omega arith) (omega arith) (omega arith) (omega arith) low_same high_same (λ i lt. rw root_is at (minus i (omega arith))) in
    let parts = both_transforms p roots levels n k m place h f half transform in
    let left_a = length-combined r (take m a) (drop m a) (omega arith) in
    let left_h = length-combined r (drop m h) (take m h) (omega arith) in
    let right_a = length-combined (neg_ℤ r) (take m a) (drop m a) (omega arith) in
    let right_h = length-combined (neg_ℤ r) (drop m h) (take m h) (omega arith) in
    let first = left r (combined r (take m a) (drop m a)) (combined r (drop m h) (take m h)) (are.even place less) (omega arith) (omega arith) x (rw back_is parts.0) in
    let second = right (neg_ℤ r) (combined (neg_ℤ r) (take m a) (drop m a)) (combined (neg_ℤ r) (drop m h) (take m h)) (are.odd place less) (omega arith) (omega arith) y (rw front_is parts.1) in
    let scale : ℕ = inverse_of_word p in
    let order : (2 * 2 ^ k) * scale ≡ 2 * (2 ^ k * scale) = omega arith in
    rw (double, order)
    (product_both p m (2 ^ k) (2 ^ k * scale) s r (root_at inverses place) a h us vs lows highs half.power (omega arith) (omega arith) lows_long square (are.inverse place (omega arith)) first second
    (λ i lt. sum i (omega arith)) (λ i lt. rw inverse_is at (difference i (omega arith))))

-- ---- four numbers that were loaded

pub loaded_front : (p : ℕ) (xs lanes : List ℕ) (u : List ℤ) → length lanes ≡ 4 → 4 ≤ length xs → ((k : ℕ) → k < 4 → get_or lanes k 0 ≡ get_or xs (0 + k) 0) → AreSame p xs u → AreSame p lanes (take 4 u)
loaded_front p xs lanes u four long is same k lt =
    let below : k < 4 = omega arith in
    let first : 0 + k ≡ k = omega arith in
    rw (is k below, first, get_or-take 4 u k (pos 0) below) (same k (omega arith))

pub loaded_back : (p : ℕ) (xs lanes : List ℕ) (u : List ℤ) → length lanes ≡ 4 → 8 ≤ length xs → ((k : ℕ) → k < 4 → get_or lanes k 0 ≡ get_or xs (4 + k) 0) → AreSame p xs u → AreSame p lanes (drop 4 u)
loaded_back p xs lanes u four long is same k lt =
    let below : k < 4 = omega arith in
    rw (is k below, get_or-drop 4 u k (pos 0)) (same (4 + k) (omega arith))
