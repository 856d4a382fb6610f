-- Sums by products of three thirds: what the passes and the two products make of loaded numbers.
use Rattle.std.proofs.Common.{◌≡◌, ◌+◌, ◌-◌, ◌*◌, ◌^◌, ◌<◌, ◌≤◌, ◌∙◌, ap, sym, refl, ℕ, zero, suc, arith, ℤ, pos, neg_ℤ, ◌*ℤ◌, ◌+ℤ◌, List, [], ◌∷◌, ◌++◌, length, get_or, drop, take, map, ◌-ℤ◌, inl, inr}
use Rattle.std.proofs.lemmas.Int.{ints}
use Rattle.std.proofs.lemmas.Bool.{cases_lt}
use Rattle.std.proofs.lemmas.List.{length-drop, length-append, length-map, length-take-le, get_or-drop, get_or-take, get_or-append-add, get_or_append_left, drop-drop, take_all, take-append-drop}
use borrow.Author.Differences.{product_is}
use Rattle.fx_tap_sums.specs.Multiplying.{MultipliesBy}
use Rattle.fx_tap_sums.specs.Products.{sum_of_products}
use Rattle.fx_tap_sums.specs.Quarters.{difference_at, with_difference_at}
use Rattle.fx_tap_sums.specs.Residues.{AreCongruent, AreRemainders, AreSame, IsModulus, Same, inverse_of_word}
use Rattle.fx_tap_sums.specs.Transform.{AreRoots, combined, root_at}
use Rattle.fx_tap_sums.specs.Prepared.{IsLoaded, IsPreparedWeights, padded_weights}
use Rattle.fx_tap_sums.proofs.Numbers.{neg-mul}
use Rattle.fx_tap_sums.proofs.Residues.{same_add, same_mul, same_negated, same_on}
use Rattle.fx_tap_sums.proofs.Steps.{at_combined}
use Rattle.fx_tap_sums.proofs.Cyclic.{length-combined, round}
use Rattle.fx_tap_sums.proofs.CyclicSums.{length-padded, padded_at, round_is}
use Rattle.fx_tap_sums.proofs.Prepared.{scale_is}
use Rattle.fx_tap_sums.proofs.Thirds.{AreTurned, apart, high_sum, low_sum, pads, unscaled}

-- ---- parts of numbers and of the list that they are congruent to

at_scaled : (r : ℤ) (xs : List ℤ) (i : ℕ) → get_or (map (λ x. r *ℤ x) xs) i (pos 0) ≡ r *ℤ get_or xs i (pos 0)
at_scaled r [] i = let none = product_is r (pos 0) in omega (arith, ints)
at_scaled r (x ∷ xs) zero = refl
at_scaled r (x ∷ xs) (suc i) = at_scaled r xs i

-- the number at a place of the difference of two lists
at_apart : (u v : List ℤ) (i : ℕ) → length u ≡ length v → i < length u → get_or (apart u v) i (pos 0) ≡ get_or u i (pos 0) -ℤ get_or v i (pos 0)
at_apart u v i long lt = omega (arith, ints, at_combined (neg_ℤ (pos 1)) u v i long lt, neg-mul (pos 1) (get_or v i (pos 0)), product_is (pos 1) (get_or v i (pos 0)))

-- a difference of numbers, so many times
same_difference : (q : ℕ) (w : ℤ) (xs ys : List ℕ) (us vs : List ℤ) (i : ℕ) → length us ≡ length vs → length xs ≡ length us → length ys ≡ length us → AreSame q xs us → AreSame q ys vs → i < length us →
    Same (pos q) (difference_at w xs ys i) (w *ℤ get_or (apart us vs) i (pos 0))
same_difference q w xs ys us vs i long xs_long ys_long first second lt =
    let p = pos q in
    let x : ℤ = pos (get_or xs i 0) in
    let y : ℤ = pos (get_or ys i 0) in
    let u : ℤ = get_or us i (pos 0) in
    let v : ℤ = get_or vs i (pos 0) in
    let one : Same p x u = first i (omega arith) in
    let two : Same p y v = second i (omega arith) in
    let both : Same p (x -ℤ y) (u -ℤ v) = same_add p x u (neg_ℤ y) (neg_ℤ v) one (same_negated p y v two) in
    rw (at_apart us vs i long lt) (same_mul p w (x -ℤ y) (u -ℤ v) both)

same_with_difference : (q : ℕ) (w : ℤ) (zs xs ys new : List ℕ) (ts us vs : List ℤ) → length us ≡ length vs → length ts ≡ length us → length xs ≡ length us → length ys ≡ length us → length zs ≡ length us → length new ≡ length us →
    AreSame q zs ts → AreSame q xs us → AreSame q ys vs → AreCongruent q (length us) new (with_difference_at zs w xs ys) → AreSame q new (combined w ts (apart us vs))
same_with_difference q w zs xs ys new ts us vs long ts_long xs_long ys_long zs_long new_long third first second is i lt =
    let p = pos q in
    let d_long = length-combined (neg_ℤ (pos 1)) us vs long in
    let below : i < length us = omega arith in
    let one : Same p (pos (get_or zs i 0)) (get_or ts i (pos 0)) = third i (omega arith) in
    let two = same_difference q w xs ys us vs i long xs_long ys_long first second below in
    rw (at_combined w ts (apart us vs) i (omega arith) (omega arith))
    (same_on p (pos (get_or new i 0)) (with_difference_at zs w xs ys i) _ (is i below) (same_add p _ (get_or ts i (pos 0)) (difference_at w xs ys i) (w *ℤ get_or (apart us vs) i (pos 0)) one two))

same_scaled : (q : ℕ) (w : ℤ) (xs ys new : List ℕ) (us vs : List ℤ) → length us ≡ length vs → length xs ≡ length us → length ys ≡ length us → length new ≡ length us →
    AreSame q xs us → AreSame q ys vs → AreCongruent q (length us) new (difference_at w xs ys) → AreSame q new (map (λ d. w *ℤ d) (apart us vs))
same_scaled q w xs ys new us vs long xs_long ys_long new_long first second is i lt =
    let p = pos q in
    let below : i < length us = omega arith in
    rw (at_scaled w (apart us vs) i)
    (same_on p (pos (get_or new i 0)) (difference_at w xs ys i) _ (is i below) (same_difference q w xs ys us vs i long xs_long ys_long first second below))

same_append : (q : ℕ) (xs ys : List ℕ) (us vs : List ℤ) → length xs ≡ length us → AreSame q xs us → AreSame q ys vs → AreSame q (xs ++ ys) (us ++ vs)
same_append q [] ys [] vs long first second i lt = second i lt
same_append q (x ∷ xs) ys (u ∷ us) vs long first second zero lt = first 0 (omega arith)
same_append q (x ∷ xs) ys (u ∷ us) vs long first second (suc i) lt = same_append q xs ys us vs (omega arith) (λ j l. first (suc j) (omega arith)) second i (omega arith)
same_append q _ ys _ vs long first second _ lt = absurd (omega arith)

-- a part of numbers from a place on
pub same_part : (q n m : ℕ) (xs ys : List ℕ) (us : List ℤ) → AreSame q ys us → length xs ≡ m → n + m ≤ length ys → ((k : ℕ) → k < m → get_or xs k 0 ≡ get_or ys (n + k) 0) → AreSame q xs (take m (drop n us))
same_part q n m xs ys us same long bound is k lt =
    let below : k < m = omega arith in
    rw (is k below, get_or-take m (drop n us) k (pos 0) below, get_or-drop n us k (pos 0)) (same (n + k) (omega arith))

-- ---- the passes

-- what the first pass makes of 3,072 numbers: their thirds, and what becomes of them
pub record AreThirds (q half turned : ℕ) (v first second third s0 s1 s2 : List ℕ) : Type 0 where
  pub first_long : length first ≡ 1024
  pub second_long : length second ≡ 1024
  pub third_long : length third ≡ 1024
  pub first_is : (k : ℕ) → k < 1024 → get_or first k 0 ≡ get_or v (0 + k) 0
  pub second_is : (k : ℕ) → k < 1024 → get_or second k 0 ≡ get_or v (1024 + k) 0
  pub third_is : (k : ℕ) → k < 1024 → get_or third k 0 ≡ get_or v (2048 + k) 0
  pub s0_long : length s0 ≡ 1024
  pub s1_long : length s1 ≡ 1024
  pub s2_long : length s2 ≡ 1024
  pub s0_is : AreCongruent q 1024 s0 (with_difference_at third (pos half) first third)
  pub s1_is : AreCongruent q 1024 s1 (with_difference_at second (pos turned) first third)
  pub s2_is : AreCongruent q 1024 s2 (difference_at (pos half) first third)

-- a list of 3,072 numbers is its thirds
thirds_of : (a : List ℤ) → length a ≡ 3072 → take 1024 (drop 0 a) ++ (take 1024 (drop 1024 a) ++ take 1024 (drop 2048 a)) ≡ a
thirds_of a long =
    let left = length-drop 2048 a in
    let last : take 1024 (drop 2048 a) ≡ drop 2048 a = take_all 1024 (drop 2048 a) (omega arith) in
    let twice : drop 1024 (drop 1024 a) ≡ drop 2048 a = drop-drop 1024 1024 a in
    let back : take 1024 (drop 1024 a) ++ drop 2048 a ≡ drop 1024 a = ap (λ z. take 1024 (drop 1024 a) ++ z) (sym twice) ∙ take-append-drop 1024 (drop 1024 a) in
    rw (last, back) (take-append-drop 1024 a)

-- weights times a loaded window, from a place on
loaded_sum : (w ws : List ℤ) (i : ℕ) → length w < 3072 → i + length ws ≤ length w → sum_of_products (drop (i + 1) (padded_weights 3072 (pos 0 ∷ w))) ws ≡ sum_of_products (drop i w) ws
loaded_sum w ws i bound lt = sym (pads (drop (i + 1) (padded_weights 3072 (pos 0 ∷ w))) ws (3072 - length ws) 0) ∙ round_is w ws 3072 i bound lt

-- the product of numbers and weights that are prepared, at a place
prepared_product : (q levels place n i : ℕ) (s : ℤ) (a ws : List ℤ) (roots inverses leaves old new : List ℕ) → IsModulus q → levels ≤ 32 → n ≡ 4 * 2 ^ levels → IsPreparedWeights q levels place ws roots inverses leaves →
    length old ≡ n → length a ≡ n → length ws ≤ n → AreSame q old a → Same (pos q) (root_at roots place *ℤ root_at roots place) s → MultipliesBy q levels roots place leaves old new → i < n →
    Same (pos q) (pos (get_or new i 0)) (sum_of_products a (drop (n - 1 - i) ws) +ℤ (s *ℤ round a ws i))
prepared_product q levels place n i s a ws roots inverses leaves old new modulus limit size prepared old_long a_long bound same square product lt =
    let p = pos q in
    let factor : ℤ = pos (2 ^ levels * inverse_of_word q) in
    let scale : ℤ = pos (2 ^ (32 - levels)) in
    let hs : List ℤ = map (λ w. scale *ℤ w) ws in
    let mapped = length-map ws (λ w. scale *ℤ w) in
    let h : List ℤ = padded_weights n hs in
    let h_long = length-padded n hs (omega arith) in
    let is = product s a h prepared.spectrum square (a_long ∙ sym old_long) (h_long ∙ sym old_long) same (rw (← size) at prepared.transform) prepared.of_spectrum i (omega (arith, lt, size)) in
    unscaled n i p factor (pos (get_or new i 0)) scale s a ws bound (scale_is q levels modulus limit) is

-- the roots that the passes need
turned_roots : (q half turned : ℕ) (roots inverses : List ℕ) → AreRoots q roots inverses → Same (pos q) (pos half +ℤ pos half) (pos 1) → Same (pos q) (pos turned) (root_at roots 1 *ℤ pos half) → AreTurned (pos q) (root_at roots 1) (pos half) (pos turned)
turned_roots q half turned roots inverses are twice is = record {
  is = is;
  square = same_on (pos q) _ (neg_ℤ (root_at roots 0)) (neg_ℤ (pos 1)) (are.odd 0 (omega arith)) (same_negated (pos q) (root_at roots 0) (pos 1) are.first);
  twice = twice;
}

-- the lists of integers that the numbers of the first pass are congruent to
pub record SameThirds (q half turned : ℕ) (a : List ℤ) (s0 s1 s2 : List ℕ) : Type 0 where
  pub front : AreSame q (s0 ++ s1) (combined (pos half) (take 1024 (drop 2048 a)) (apart (take 1024 (drop 0 a)) (take 1024 (drop 2048 a))) ++ combined (pos turned) (take 1024 (drop 1024 a)) (apart (take 1024 (drop 0 a)) (take 1024 (drop 2048 a))))
  pub last : AreSame q s2 (map (λ d. pos half *ℤ d) (apart (take 1024 (drop 0 a)) (take 1024 (drop 2048 a))))

third_long : (n : ℕ) (a : List ℤ) → length a ≡ 3072 → n ≤ 2048 → length (take 1024 (drop n a)) ≡ 1024
third_long n a long bound =
    let left = length-drop n a in
    length-take-le 1024 (drop n a) (omega arith)

same_thirds : (q half turned : ℕ) (a : List ℤ) (v first second third s0 s1 s2 : List ℕ) → AreThirds q half turned v first second third s0 s1 s2 → length v ≡ 3072 → length a ≡ 3072 → AreSame q v a → SameThirds q half turned a s0 s1 s2
same_thirds q half turned a v first second third s0 s1 s2 are v_long a_long same =
    let x : List ℤ = take 1024 (drop 0 a) in
    let y : List ℤ = take 1024 (drop 1024 a) in
    let z : List ℤ = take 1024 (drop 2048 a) in
    let x_long = third_long 0 a a_long (omega arith) in
    let y_long = third_long 1024 a a_long (omega arith) in
    let z_long = third_long 2048 a a_long (omega arith) in
    let one = same_part q 0 1024 first v a same are.first_long (omega arith) are.first_is in
    let two = same_part q 1024 1024 second v a same are.second_long (omega arith) are.second_is in
    let three = same_part q 2048 1024 third v a same are.third_long (omega arith) are.third_is in
    let d_long = length-combined (neg_ℤ (pos 1)) x z (omega arith) in
    let b0_long = length-combined (pos half) z (apart x z) (omega arith) in
    let b0 = same_with_difference q (pos half) third first third s0 z x z (omega arith) (omega arith) (are.first_long ∙ sym x_long) (are.third_long ∙ sym x_long) (are.third_long ∙ sym x_long) (are.s0_long ∙ sym x_long) three one three (rw (← x_long) at are.s0_is) in
    let b1 = same_with_difference q (pos turned) second first third s1 y x z (omega arith) (omega arith) (are.first_long ∙ sym x_long) (are.third_long ∙ sym x_long) (are.second_long ∙ sym x_long) (are.s1_long ∙ sym x_long) two one three (rw (← x_long) at are.s1_is) in
    record {
      front = same_append q s0 s1 (combined (pos half) z (apart x z)) (combined (pos turned) y (apart x z)) (omega (arith, are.s0_long, b0_long, z_long)) b0 b1;
      last = same_scaled q (pos half) first third s2 x z (omega arith) (are.first_long ∙ sym x_long) (are.third_long ∙ sym x_long) (are.s2_long ∙ sym x_long) one three (rw (← x_long) at are.s2_is);
    }

-- ---- the sums

pub sums_of_thirds : (q half turned i : ℕ) (out next : ℤ) (ws w : List ℤ) (roots inverses medium last v first second third s0 s1 s2 f e : List ℕ) → IsModulus q → Same (pos q) (pos half +ℤ pos half) (pos 1) → Same (pos q) (pos turned) (root_at roots 1 *ℤ pos half) →
    IsPreparedWeights q 9 0 ws roots inverses medium → IsPreparedWeights q 8 2 ws roots inverses last → AreThirds q half turned v first second third s0 s1 s2 → IsLoaded q w v → length v ≡ 3072 → length ws ≤ 1024 →
    MultipliesBy q 9 roots 0 medium (s0 ++ s1) f → MultipliesBy q 8 roots 2 last s2 e → i < 1024 →
    Same (pos q) out (pos (get_or f i 0) +ℤ (neg_ℤ (root_at roots 1) *ℤ pos (get_or e i 0))) → Same (pos q) next (pos (get_or f (1024 + i) 0) +ℤ neg_ℤ (pos (get_or e i 0))) →
    (i + length ws ≤ length w → Same (pos q) out (sum_of_products (drop i w) ws)) × (1024 + i + length ws ≤ length w → Same (pos q) next (sum_of_products (drop (1024 + i) w) ws))
sums_of_thirds q half turned i out next ws w roots inverses medium last v first second third s0 s1 s2 f e modulus twice is of_medium of_last are loaded v_long bound front back lt out_is next_is =
    let p = pos q in
    let r : ℤ = root_at roots 1 in
    let a : List ℤ = padded_weights 3072 (pos 0 ∷ w) in
    let w_long : length w < 3072 = omega (arith, loaded.0, v_long) in
    let a_long : length a ≡ 3072 = length-padded 3072 (pos 0 ∷ w) (omega (arith, w_long)) in
    let same : AreSame q v a = λ k below. rw (padded_at 3072 (pos 0 ∷ w) k) (loaded.1 k below) in
    let x : List ℤ = take 1024 (drop 0 a) in
    let y : List ℤ = take 1024 (drop 1024 a) in
    let z : List ℤ = take 1024 (drop 2048 a) in
    let x_long = third_long 0 a a_long (omega arith) in
    let y_long = third_long 1024 a a_long (omega arith) in
    let z_long = third_long 2048 a a_long (omega arith) in
    let thirds = same_thirds q half turned a v first second third s0 s1 s2 are v_long a_long same in
    let roots_are = turned_roots q half turned roots inverses of_medium.are twice is in
    let d_long = length-combined (neg_ℤ (pos 1)) x z (omega arith) in
    let b0_long = length-combined (pos half) z (apart x z) (omega arith) in
    let b1_long = length-combined (pos turned) y (apart x z) (omega arith) in
    let b : List ℤ = combined (pos half) z (apart x z) ++ combined (pos turned) y (apart x z) in
    let c : List ℤ = map (λ d. pos half *ℤ d) (apart x z) in
    let b_long : length b ≡ 2048 = let whole = length-append (combined (pos half) z (apart x z)) (combined (pos turned) y (apart x z)) in omega arith in
    let c_long : length c ≡ 1024 = length-map (apart x z) (λ d. pos half *ℤ d) ∙ omega arith in
    let s_long : length (s0 ++ s1) ≡ 2048 = length-append s0 s1 ∙ omega (arith, are.s0_long, are.s1_long) in
    let one : Same p (root_at roots 0 *ℤ root_at roots 0) (pos 1) = same_on p _ (root_at roots 0) (pos 1) (of_medium.are.even 0 (omega arith)) of_medium.are.first in
    let two : Same p (root_at roots 2 *ℤ root_at roots 2) r = of_medium.are.even 1 (omega arith) in
    let low = prepared_product q 9 0 2048 i (pos 1) b ws roots inverses medium (s0 ++ s1) f modulus (omega arith) refl of_medium s_long b_long (omega (arith, bound)) thirds.front one front (omega (arith, lt)) in
    let high = prepared_product q 9 0 2048 (1024 + i) (pos 1) b ws roots inverses medium (s0 ++ s1) f modulus (omega arith) refl of_medium s_long b_long (omega (arith, bound)) thirds.front one front (omega (arith, lt)) in
    let third_is = prepared_product q 8 2 1024 i r c ws roots inverses last s2 e modulus (omega arith) refl of_last are.s2_long c_long bound thirds.last two back lt in
    let whole = thirds_of a a_long in
    let first_sum = rw whole at (low_sum p r (pos half) (pos turned) (pos (get_or f i 0)) (pos (get_or e i 0)) out 1024 i x y z ws roots_are x_long y_long z_long bound lt low third_is out_is) in
    let second_sum = rw whole at (high_sum p r (pos half) (pos turned) (pos (get_or f (1024 + i) 0)) (pos (get_or e i 0)) next 1024 i x y z ws roots_are x_long y_long z_long bound lt high third_is next_is) in
    ((λ l. rw (loaded_sum w ws i w_long l) at first_sum), (λ l. rw (loaded_sum w ws (1024 + i) w_long l) at second_sum))

-- ---- the parts of numbers that stand one after another

-- the thirds of 3,072 numbers, cut off at 2,048 and then at 1,024
pub record AreCut (v front third first second : List ℕ) : Type 0 where
  pub front_is : front ≡ take 2048 v
  pub third_is : third ≡ drop 2048 v
  pub first_is : first ≡ take 1024 front
  pub second_is : second ≡ drop 1024 front

pub cut_long : (v front third first second : List ℕ) → AreCut v front third first second → length v ≡ 3072 → (length first ≡ 1024) × (length second ≡ 1024) × (length third ≡ 1024)
cut_long v front third first second are long =
    let front_long : length front ≡ 2048 = rw are.front_is (length-take-le 2048 v (omega arith)) in
    let left = length-drop 1024 front in
    let rest = length-drop 2048 v in
    (rw are.first_is (length-take-le 1024 front (omega arith)), rw are.second_is (omega arith), rw are.third_is (omega arith))

pub cut_first : (v front third first second : List ℕ) → AreCut v front third first second → (k : ℕ) → k < 1024 → get_or first k 0 ≡ get_or v (0 + k) 0
cut_first v front third first second are k lt =
    let place : 0 + k ≡ k = omega arith in
    rw (are.first_is, are.front_is, place, get_or-take 1024 (take 2048 v) k 0 lt) (get_or-take 2048 v k 0 (omega arith))

pub cut_second : (v front third first second : List ℕ) → AreCut v front third first second → (k : ℕ) → k < 1024 → get_or second k 0 ≡ get_or v (1024 + k) 0
cut_second v front third first second are k lt = rw (are.second_is, are.front_is, get_or-drop 1024 (take 2048 v) k 0) (get_or-take 2048 v (1024 + k) 0 (omega arith))

pub cut_third : (v front third first second : List ℕ) → AreCut v front third first second → (k : ℕ) → k < 1024 → get_or third k 0 ≡ get_or v (2048 + k) 0
cut_third v front third first second are k lt = rw are.third_is (get_or-drop 2048 v k 0)

-- numbers of a part are no greater than those of the whole
pub part_less : (maximum n m : ℕ) (xs ys : List ℕ) → AreRemainders maximum ys → length xs ≡ m → n + m ≤ length ys → ((k : ℕ) → k < m → get_or xs k 0 ≡ get_or ys (n + k) 0) → AreRemainders maximum xs
part_less maximum n m xs ys less long bound is k lt =
    let below : k < m = omega arith in
    rw (is k below) (less (n + k) (omega arith))

-- a number of the first 2,048, which stand in two parts
pub of_parts : (P : ℤ → ℕ → Type 0) (m i : ℕ) (xs ys zs : List ℕ) → length xs ≡ m → length ys ≡ m → i < 2 * m →
    ((k : ℕ) → k < m → P (pos (get_or xs k 0)) k) → ((k : ℕ) → k < m → P (pos (get_or ys k 0)) (m + k)) → P (pos (get_or ((xs ++ ys) ++ zs) i 0)) i
of_parts P m i xs ys zs xs_long ys_long lt low high =
    let both = length-append xs ys in
    let inside : get_or ((xs ++ ys) ++ zs) i 0 ≡ get_or (xs ++ ys) i 0 = get_or_append_left (xs ++ ys) zs 0 i (omega arith) in
    elim (cases_lt i m) [
      | inl below ↦
          let at : get_or (xs ++ ys) i 0 ≡ get_or xs i 0 = get_or_append_left xs ys 0 i (omega arith) in
          rw (inside, at) (low i below)
      | inr above ↦
          let place : m + (i - m) ≡ i = omega arith in
          let k : i - m < m = omega arith in
          let from : get_or (xs ++ ys) (length xs + (i - m)) 0 ≡ get_or ys (i - m) 0 = get_or-append-add xs ys (i - m) 0 in
          let at : get_or (xs ++ ys) i 0 ≡ get_or ys (i - m) 0 = rw (xs_long, place) at from in
          rw (inside, at) (rw place at (high (i - m) k))
    ]

-- the halves of 2,048 numbers
pub half_first : (f f0 : List ℕ) → f0 ≡ take 1024 f → (k : ℕ) → k < 1024 → get_or f0 k 0 ≡ get_or f (0 + k) 0
half_first f f0 is k lt =
    let place : 0 + k ≡ k = omega arith in
    rw (is, place) (get_or-take 1024 f k 0 lt)

pub half_second : (f f1 : List ℕ) → f1 ≡ drop 1024 f → (k : ℕ) → k < 1024 → get_or f1 k 0 ≡ get_or f (1024 + k) 0
half_second f f1 is k lt = rw is (get_or-drop 1024 f k 0)
