-- A product of two lists modulo x^n - s, and the same by two products of half the size: the step of a number-theoretic transform.
use Rattle.std.proofs.Common.{◌≡◌, ℕ, zero, suc, ◌+◌, ◌-◌, ◌<◌, ◌≤◌, ap, ◌∙◌, refl, arith, ℤ, pos, ◌*ℤ◌, ◌+ℤ◌, List, [], ◌∷◌, ◌++◌, length, drop}
use Rattle.std.proofs.lemmas.Int.{ints}
use Rattle.std.proofs.lemmas.List.{drop_all, length-drop, length-append, drop-append-le}
use borrow.Author.Differences.{product_is}
use Rattle.fx_tap_sums.specs.Products.{sum_of_products}
use Rattle.fx_tap_sums.specs.Transform.{cyclic, combined}
use Rattle.fx_tap_sums.proofs.Numbers.{mul-add, add-mul, mul_assoc, mul_swap}

-- ---- sums of products of lists in two parts

pub nothing : (xs : List ℤ) → sum_of_products xs [] ≡ pos 0
nothing [] = refl
nothing (x ∷ xs) = refl

pub append_left : (u v h : List ℤ) → sum_of_products (u ++ v) h ≡ sum_of_products u h +ℤ sum_of_products v (drop (length u) h)
append_left [] v h = omega (arith, ints)
append_left (x ∷ u) v [] = rw (nothing v) refl
append_left (x ∷ u) v (c ∷ h) = omega (arith, ints, append_left u v h)

pub append_right : (u h g : List ℤ) → sum_of_products u (h ++ g) ≡ sum_of_products u h +ℤ sum_of_products (drop (length h) u) g
append_right u [] g = rw (nothing u) (omega (arith, ints))
append_right [] (c ∷ h) g = refl
append_right (x ∷ u) (c ∷ h) g = omega (arith, ints, append_right u h g)

pub drop_back : (u v : List ℤ) (k : ℕ) → drop (length u + k) (u ++ v) ≡ drop k v
drop_back [] v k = ap (λ n. drop n v) (omega arith)
drop_back (x ∷ u) v k =
    let place : length (x ∷ u) + k ≡ suc (length u + k) = omega arith in
    rw place (drop_back u v k)

-- ---- one list plus r times another

none : (r : ℤ) → pos 0 ≡ pos 0 +ℤ (r *ℤ pos 0)
none r = let z = product_is r (pos 0) in omega (arith, ints)

pub combined_left : (r : ℤ) (u v h : List ℤ) → length u ≡ length v → sum_of_products (combined r u v) h ≡ sum_of_products u h +ℤ (r *ℤ sum_of_products v h)
combined_left r [] [] h same = none r
combined_left r (x ∷ u) (y ∷ v) [] same = none r
combined_left r (x ∷ u) (y ∷ v) (c ∷ h) same =
    let rest = combined_left r u v h (omega arith) in
    omega (arith, ints, add-mul x (r *ℤ y) c, mul_assoc r y c, mul-add r (y *ℤ c) (sum_of_products v h))
combined_left r _ _ _ same = absurd (omega arith)

pub combined_right : (r : ℤ) (u h g : List ℤ) → length h ≡ length g → sum_of_products u (combined r h g) ≡ sum_of_products u h +ℤ (r *ℤ sum_of_products u g)
combined_right r [] h g same = none r
combined_right r (x ∷ u) [] [] same = none r
combined_right r (x ∷ u) (c ∷ h) (d ∷ g) same =
    let rest = combined_right r u h g (omega arith) in
    omega (arith, ints, mul-add x c (r *ℤ d), mul_swap x r d, mul-add r (x *ℤ d) (sum_of_products u g))
combined_right r _ _ _ same = absurd (omega arith)

pub length-combined : (r : ℤ) (u v : List ℤ) → length u ≡ length v → length (combined r u v) ≡ length u
length-combined r [] v same = refl
length-combined r (x ∷ u) [] same = absurd (omega arith)
length-combined r (x ∷ u) (y ∷ v) same = let rest = length-combined r u v (omega arith) in omega arith

pub drop-combined : (k : ℕ) (r : ℤ) (u v : List ℤ) → length u ≡ length v → drop k (combined r u v) ≡ combined r (drop k u) (drop k v)
drop-combined zero r u v same = refl
drop-combined (suc k) r [] v same = refl
drop-combined (suc k) r (x ∷ u) [] same = absurd (omega arith)
drop-combined (suc k) r (x ∷ u) (y ∷ v) same = drop-combined k r u v (omega arith)

-- ---- the products of which a cyclic product is made: those that stay, and those that come round
abbrev pub stays : List ℤ → List ℤ → ℕ → ℤ
stays a h i = sum_of_products a (drop (length h - 1 - i) h)

abbrev pub round : List ℤ → List ℤ → ℕ → ℤ
round a h i = sum_of_products (drop (i + 1) a) h

-- products beyond the end of a list
pub beyond_end : (u v h : List ℤ) → length h ≤ length u → sum_of_products (u ++ v) h ≡ sum_of_products u h
beyond_end u v h short =
    let none : drop (length u) h ≡ [] = drop_all (length u) h short in
    let split = append_left u v h in
    let zero_is = nothing v in
    omega (arith, ints, rw (none, zero_is) at split)

right_beyond : (u h g : List ℤ) → length u ≤ length h → sum_of_products u (h ++ g) ≡ sum_of_products u h
right_beyond u h g short =
    let none : drop (length h) u ≡ [] = drop_all (length h) u short in
    let split = append_right u h g in
    omega (arith, ints, rw none at split)

-- what comes round of a list in two parts
pub round_both : (m i : ℕ) (a b h : List ℤ) → length a ≡ m → i < m → sum_of_products (drop (i + 1) (a ++ b)) h ≡ round a h i +ℤ sum_of_products b (drop (m - 1 - i) h)
round_both m i a b h a_long lt =
    let front = drop-append-le (i + 1) a b (omega arith) in
    let left = length-drop (i + 1) a in
    let place : length (drop (i + 1) a) ≡ m - 1 - i = omega arith in
    let split = append_left (drop (i + 1) a) b h in
    rw front (rw place at split)

-- the first half of a cyclic product of lists in two parts; h and g are the parts of the second list, backwards: its later part first
pub first_half : (m i : ℕ) (s : ℤ) (a b h g : List ℤ) → length a ≡ m → length b ≡ m → length h ≡ m → length g ≡ m → i < m →
    cyclic s (a ++ b) (h ++ g) i ≡ stays a g i +ℤ (s *ℤ (round a h i +ℤ (stays b h i +ℤ round b g i)))
first_half m i s a b h g a_long b_long h_long g_long lt =
    let size = length-append h g in
    let place : length (h ++ g) - 1 - i ≡ length h + (length g - 1 - i) = omega arith in
    let kept : drop (length (h ++ g) - 1 - i) (h ++ g) ≡ drop (length g - 1 - i) g = rw place (drop_back h g (length g - 1 - i)) in
    let kept_long = length-drop (length g - 1 - i) g in
    let low = beyond_end a b (drop (length g - 1 - i) g) (omega arith) in
    let over = round_both m i a b (h ++ g) a_long lt in
    let a_left = length-drop (i + 1) a in
    let one = right_beyond (drop (i + 1) a) h g (omega arith) in
    let front = drop-append-le (m - 1 - i) h g (omega arith) in
    let h_left = length-drop (m - 1 - i) h in
    let next : length (drop (m - 1 - i) h) ≡ i + 1 = omega arith in
    let two = rw next at (append_right b (drop (m - 1 - i) h) g) in
    let h_place : m - 1 - i ≡ length h - 1 - i = omega arith in
    let high : sum_of_products (drop (i + 1) (a ++ b)) (h ++ g) ≡ round a h i +ℤ (stays b h i +ℤ round b g i) = over ∙ rw (one, front, two, h_place) refl in
    rw (kept, low, high) refl

-- and the second half
pub second_half : (m i : ℕ) (s : ℤ) (a b h g : List ℤ) → length a ≡ m → length b ≡ m → length h ≡ m → length g ≡ m → i < m →
    cyclic s (a ++ b) (h ++ g) (m + i) ≡ (stays a h i +ℤ (round a g i +ℤ stays b g i)) +ℤ (s *ℤ round b h i)
second_half m i s a b h g a_long b_long h_long g_long lt =
    let size = length-append h g in
    let place : length (h ++ g) - 1 - (m + i) ≡ length h - 1 - i = omega arith in
    let front = drop-append-le (length h - 1 - i) h g (omega arith) in
    let kept_long = length-drop (length h - 1 - i) h in
    let next : length (drop (length h - 1 - i) h) ≡ i + 1 = omega arith in
    let split = rw next at (append_right (a ++ b) (drop (length h - 1 - i) h) g) in
    let low = beyond_end a b (drop (length h - 1 - i) h) (omega arith) in
    let over = round_both m i a b g a_long lt in
    let g_place : m - 1 - i ≡ length g - 1 - i = omega arith in
    let over_is : sum_of_products (drop (i + 1) (a ++ b)) g ≡ round a g i +ℤ stays b g i = rw g_place at over in
    let stay : sum_of_products (a ++ b) (drop (length (h ++ g) - 1 - (m + i)) (h ++ g)) ≡ stays a h i +ℤ (round a g i +ℤ stays b g i) = rw (place, front) (split ∙ rw (low, over_is) refl) in
    let far : m + i + 1 ≡ length a + (i + 1) = omega arith in
    let beyond : drop (m + i + 1) (a ++ b) ≡ drop (i + 1) b = rw far (drop_back a b (i + 1)) in
    let b_left = length-drop (i + 1) b in
    let come = right_beyond (drop (i + 1) b) h g (omega arith) in
    rw (stay, beyond, come) refl
