-- Two steps of a transform at once, on quarters.
use Rattle.std.proofs.Common.{subst, ◌≡◌, ◌+◌, ◌-◌, ◌*◌, ◌/◌, ◌^◌, ◌<◌, ◌≤◌, ◌∙◌, refl, ap, sym, ℕ, zero, suc, ℤ, pos, neg_ℤ, ◌*ℤ◌, ◌+ℤ◌, List, [], ◌∷◌, ◌++◌, length, get_or, take, drop, arith, ◌-ℤ◌, inl, inr}
use Rattle.std.proofs.lemmas.Bool.{cases_lt}
use Rattle.std.proofs.lemmas.Int.{ints}
use Rattle.std.proofs.lemmas.Nat.{pow_below}
use Rattle.std.proofs.lemmas.List.{length-append, length-drop, length-take-le, get_or_append_left, get_or-append-add, get_or-take, get_or-drop}
use Rattle.fx_tap_sums.specs.Quarters.{difference_at, gather_first_at, gather_fourth_at, gather_second_at, gather_third_at, levels_at, spread_at, spread_first_at, spread_fourth_at, spread_second_at, spread_third_at, sum_at}
use Rattle.fx_tap_sums.specs.Residues.{AreCongruent, AreFour, AreRemainders, IsModulus, Same, AreSame, inverse_of_word}
use Rattle.fx_tap_sums.specs.Leaves.{AreLeaves}
use Rattle.fx_tap_sums.specs.Multiplying.{MultipliesBy}
use Rattle.fx_tap_sums.specs.Transform.{AreRoots, IsTransform, IsProduct, root_at}
use Rattle.fx_tap_sums.proofs.Numbers.{neg-mul}
use Rattle.fx_tap_sums.proofs.Residues.{same_on, same_add, same_is, same_mul, same_negated, same_sym}
use Rattle.fx_tap_sums.proofs.Steps.{Halved, halved, place_less, product_of_halves}
use Rattle.fx_tap_sums.proofs.Writes.{remainders_both, remainders_drop, remainders_take, remainders_wider}

-- ---- lists of a level that is in no memory

-- by * (x + r * y) for each two numbers of two lists
abbrev pub weighed : ℕ → ℕ → List ℕ → List ℕ → List ℕ
weighed by r [] ys = []
weighed by r (x ∷ xs) [] = []
weighed by r (x ∷ xs) (y ∷ ys) = (by * (x + r * y)) ∷ weighed by r xs ys

pub length-weighed : (by r : ℕ) (xs ys : List ℕ) → length xs ≡ length ys → length (weighed by r xs ys) ≡ length xs
length-weighed by r [] ys long = refl
length-weighed by r (x ∷ xs) [] long = absurd (omega arith)
length-weighed by r (x ∷ xs) (y ∷ ys) long = ap suc (length-weighed by r xs ys (omega arith))

pub at_weighed : (by r : ℕ) (xs ys : List ℕ) (i : ℕ) → length xs ≡ length ys → i < length xs → get_or (weighed by r xs ys) i 0 ≡ by * (get_or xs i 0 + r * get_or ys i 0)
at_weighed by r (x ∷ xs) (y ∷ ys) zero long lt = refl
at_weighed by r (x ∷ xs) (y ∷ ys) (suc i) long lt = at_weighed by r xs ys i (omega arith) (omega arith)
at_weighed by r _ _ _ long lt = absurd (omega arith)

-- one less than the modulus is -1
pub same_opposite : (p y : ℕ) → 0 < p → Same (pos p) (pos ((p - 1) * y)) (neg_ℤ (pos y))
same_opposite zero y some = absurd (omega arith)
same_opposite (suc q) y some =
    let less : suc q - 1 ≡ q = omega arith in
    let product : pos (suc q) *ℤ pos y ≡ pos (suc q * y) = ap pos (omega arith) in
    let sum : suc q * y ≡ q * y + y = omega arith in
    rw less (pos y, omega (arith, ints))

pub weighed_plus : (p r : ℕ) (xs ys : List ℕ) (i : ℕ) → length xs ≡ length ys → i < length xs → Same (pos p) (pos (get_or (weighed 1 r xs ys) i 0)) (spread_at (pos r) xs ys i)
weighed_plus p r xs ys i long lt =
    let at = at_weighed 1 r xs ys i long lt in
    same_is (pos p) _ _ (ap pos (at ∙ omega arith))

pub weighed_minus : (p r : ℕ) (xs ys : List ℕ) (i : ℕ) → 0 < p → length xs ≡ length ys → i < length xs → Same (pos p) (pos (get_or (weighed 1 ((p - 1) * r) xs ys) i 0)) (spread_at (neg_ℤ (pos r)) xs ys i)
weighed_minus p r xs ys i some long lt =
    let x : ℕ = get_or xs i 0 in
    let y : ℕ = get_or ys i 0 in
    let at = at_weighed 1 ((p - 1) * r) xs ys i long lt in
    let order : 1 * (x + ((p - 1) * r) * y) ≡ x + (p - 1) * (r * y) = omega arith in
    let turned = neg-mul (pos r) (pos y) in
    let product : pos r *ℤ pos y ≡ pos (r * y) = ap pos (omega arith) in
    let less : Same (pos p) (pos ((p - 1) * (r * y))) (neg_ℤ (pos r) *ℤ pos y) = same_on (pos p) _ _ _ (same_opposite p (r * y) some) (same_is (pos p) _ _ (omega (arith, ints, turned, product))) in
    rw (at, order) (same_add (pos p) (pos x) (pos x) (pos ((p - 1) * (r * y))) (neg_ℤ (pos r) *ℤ pos y) (same_is (pos p) (pos x) (pos x) refl) less)

pub weighed_sum : (p : ℕ) (xs ys : List ℕ) (i : ℕ) → length xs ≡ length ys → i < length xs → Same (pos p) (pos (get_or (weighed 1 1 xs ys) i 0)) (sum_at xs ys i)
weighed_sum p xs ys i long lt =
    let at = at_weighed 1 1 xs ys i long lt in
    same_is (pos p) _ _ (ap pos (at ∙ omega arith))

pub weighed_difference : (p w : ℕ) (xs ys : List ℕ) (i : ℕ) → 0 < p → length xs ≡ length ys → i < length xs → Same (pos p) (pos (get_or (weighed w (p - 1) xs ys) i 0)) (difference_at (pos w) xs ys i)
weighed_difference p w xs ys i some long lt =
    let x : ℕ = get_or xs i 0 in
    let y : ℕ = get_or ys i 0 in
    let at = at_weighed w (p - 1) xs ys i long lt in
    let less : Same (pos p) (pos (x + (p - 1) * y)) (pos x -ℤ pos y) = same_add (pos p) (pos x) (pos x) (pos ((p - 1) * y)) (neg_ℤ (pos y)) (same_is (pos p) (pos x) (pos x) refl) (same_opposite p y some) in
    let product : pos (w * (x + (p - 1) * y)) ≡ pos w *ℤ pos (x + (p - 1) * y) = ap pos (omega arith) in
    rw (at, product) (same_mul (pos p) (pos w) _ _ less)

-- ---- two steps on four numbers

pub four_wider : (p q : ℕ) (xs : List ℕ) → p ≤ q → AreFour p xs → AreFour q xs
four_wider p q xs le are = record { four = are.four; less = λ k l. let less = are.less k l in omega arith }

pub spread_from : (p x next u s a b : ℤ) → Same p x (u +ℤ (next *ℤ s)) → Same p u a → Same p s b → Same p x (a +ℤ (next *ℤ b))
spread_from p x next u s a b is first second = same_on p x (u +ℤ (next *ℤ s)) (a +ℤ (next *ℤ b)) is (same_add p u a (next *ℤ s) (next *ℤ b) first (same_mul p next s b second))

pub sum_from : (p x u s a b : ℤ) → Same p x (u +ℤ s) → Same p u a → Same p s b → Same p x (a +ℤ b)
sum_from p x u s a b is first second = same_on p x (u +ℤ s) (a +ℤ b) is (same_add p u a s b first second)

pub difference_from : (p x w u s a b : ℤ) → Same p x (w *ℤ (u -ℤ s)) → Same p u a → Same p s b → Same p x (w *ℤ (a -ℤ b))
difference_from p x w u s a b is first second = same_on p x (w *ℤ (u -ℤ s)) (w *ℤ (a -ℤ b)) is (same_mul p w (u -ℤ s) (a -ℤ b) (same_add p u a (neg_ℤ s) (neg_ℤ b) first (same_negated p s b second)))

-- numbers that were loaded
at_loaded : (r : ℤ) (n k : ℕ) (lanes others xs ys : List ℕ) → get_or lanes k 0 ≡ get_or xs (n + k) 0 → get_or others k 0 ≡ get_or ys (n + k) 0 → spread_at r lanes others k ≡ spread_at r xs ys (n + k)
at_loaded r n k lanes others xs ys first second = ap (λ z. pos z +ℤ (r *ℤ pos (get_or others k 0))) first ∙ ap (λ z. pos (get_or xs (n + k) 0) +ℤ (r *ℤ pos z)) second

-- two steps by roots that were read, on numbers that were loaded; f and g are the signs
pub spread_loaded : (p : ℤ) (f g : ℕ → ℤ) (root read next next_read : ℕ) (x : ℤ) (n k : ℕ) (one two three four v1 v2 v3 v4 : List ℕ) → read ≡ root → next_read ≡ next →
    get_or one k 0 ≡ get_or v1 (n + k) 0 → get_or two k 0 ≡ get_or v2 (n + k) 0 → get_or three k 0 ≡ get_or v3 (n + k) 0 → get_or four k 0 ≡ get_or v4 (n + k) 0 →
    Same p x (spread_at (f read) one three k +ℤ (g next_read *ℤ spread_at (f read) two four k)) → Same p x (spread_at (f root) v1 v3 (n + k) +ℤ (g next *ℤ spread_at (f root) v2 v4 (n + k)))
spread_loaded p f g root read next next_read x n k one two three four v1 v2 v3 v4 root_is next_is first second third fourth is =
    let B : ℕ → Type 0 = λ z. Same p x (spread_at (f z) one three k +ℤ (g next_read *ℤ spread_at (f z) two four k)) in
    let C : ℕ → Type 0 = λ z. Same p x (spread_at (f root) one three k +ℤ (g z *ℤ spread_at (f root) two four k)) in
    let here : Same p x (spread_at (f root) one three k +ℤ (g next *ℤ spread_at (f root) two four k)) = subst C next_is (subst B root_is is) in
    let r : ℤ = f root in
    spread_from p x (g next) (spread_at r one three k) (spread_at r two four k) (spread_at r v1 v3 (n + k)) (spread_at r v2 v4 (n + k)) here
    (same_is p (spread_at r one three k) (spread_at r v1 v3 (n + k)) (at_loaded r n k one three v1 v3 first third))
    (same_is p (spread_at r two four k) (spread_at r v2 v4 (n + k)) (at_loaded r n k two four v2 v4 second fourth))

-- ---- quarters

-- a list in quarters of m / 2 = q
pub record Quarters (m q : ℕ) (v low high one two three four : List ℕ) : Type 0 where
  pub front : low ≡ take m v
  pub back : high ≡ drop m v
  pub first : one ≡ take q low
  pub second : two ≡ drop q low
  pub third : three ≡ take q high
  pub fourth : four ≡ drop q high

-- n is 2^levels times four: its half, and half of that
pub record Quartered (levels n : ℕ) : Type 0 where
  pub first : Halved levels n (levels - 1) (n / 2)
  pub second : Halved (levels - 1) (n / 2) (levels - 2) (n / 2 / 2)

pub quartered : (levels n : ℕ) → n ≡ 4 * 2 ^ levels → 2 ≤ levels → Quartered levels n
quartered levels n is some =
    let half = halved levels n is (omega arith) in
    let quarter = halved (levels - 1) (n / 2) half.power (omega arith) in
    let e : levels - 1 - 1 ≡ levels - 2 = omega arith in
    record { first = half; second = rw e at quarter }

pub place_of_quarters : (levels n place : ℕ) → n ≡ 4 * 2 ^ levels → 5 ≤ levels → (place + 1) * n ≤ 4096 → place < 128
place_of_quarters levels n place is some bound =
    let minimum : 2 ^ 4 < 2 ^ levels = pow_below 4 levels (omega arith) in
    let fit = place_less place n 64 (omega arith) bound in
    omega arith

-- what a step of two levels makes of quarters is what the second level makes of a list of the first
pub second_level : (p m q : ℕ) (r next : ℤ) (v low high one two three four mid xs : List ℕ) → Quarters m q v low high one two three four → length low ≡ 2 * q → length high ≡ 2 * q → length mid ≡ 2 * q →
    ((i : ℕ) → i < 2 * q → Same (pos p) (pos (get_or mid i 0)) (spread_at r low high i)) →
    ((i : ℕ) → i < q → Same (pos p) (pos (get_or xs i 0)) (spread_at r one three i +ℤ (next *ℤ spread_at r two four i))) →
    (i : ℕ) → i < q → Same (pos p) (pos (get_or xs i 0)) (pos (get_or (take q mid) i 0) +ℤ (next *ℤ pos (get_or (drop q mid) i 0)))
second_level p m q r next v low high one two three four mid xs of low_long high_long mid_long middle is i lt =
    let front : ℤ = pos (get_or (take q mid) i 0) in
    let back : ℤ = pos (get_or (drop q mid) i 0) in
    let here : Same (pos p) (spread_at r one three i) front = rw (of.first, of.third, get_or-take q low i 0 lt, get_or-take q high i 0 lt, get_or-take q mid i 0 lt) (same_sym (pos p) (pos (get_or mid i 0)) (spread_at r low high i) (middle i (omega arith))) in
    let there : Same (pos p) (spread_at r two four i) back = rw (of.second, of.fourth, get_or-drop q low i 0, get_or-drop q high i 0, get_or-drop q mid i 0) (same_sym (pos p) (pos (get_or mid (q + i) 0)) (spread_at r low high (q + i)) (middle (q + i) (omega arith))) in
    spread_from (pos p) (pos (get_or xs i 0)) next (spread_at r one three i) (spread_at r two four i) front back (is i lt) here there

-- what holds of the numbers of two halves holds of those of the whole
pub of_both : (q : ℕ) (P : ℕ → ℕ → ℕ → Type 0) (xs ys us vs ss ts : List ℕ) → length xs ≡ q → length ys ≡ q → length us ≡ q → length ss ≡ q →
    ((i : ℕ) → i < q → P (get_or xs i 0) (get_or us i 0) (get_or ss i 0)) →
    ((i : ℕ) → i < q → P (get_or ys i 0) (get_or vs i 0) (get_or ts i 0)) →
    (i : ℕ) → i < 2 * q → P (get_or (xs ++ ys) i 0) (get_or (us ++ vs) i 0) (get_or (ss ++ ts) i 0)
of_both q P xs ys us vs ss ts x_long y_long u_long s_long first second i lt = elim (cases_lt i q) [
  | inl below ↦ rw (get_or_append_left xs ys 0 i (omega arith), get_or_append_left us vs 0 i (omega arith), get_or_append_left ss ts 0 i (omega arith)) (first i below)
  | inr above ↦
      let place : q + (i - q) ≡ i = omega arith in
      let x_at : get_or (xs ++ ys) (q + (i - q)) 0 ≡ get_or ys (i - q) 0 = rw x_long at (get_or-append-add xs ys (i - q) 0) in
      let u_at : get_or (us ++ vs) (q + (i - q)) 0 ≡ get_or vs (i - q) 0 = rw u_long at (get_or-append-add us vs (i - q) 0) in
      let s_at : get_or (ss ++ ts) (q + (i - q)) 0 ≡ get_or ts (i - q) 0 = rw s_long at (get_or-append-add ss ts (i - q) 0) in
      let there : P (get_or (xs ++ ys) (q + (i - q)) 0) (get_or (us ++ vs) (q + (i - q)) 0) (get_or (ss ++ ts) (q + (i - q)) 0) = rw (x_at, u_at, s_at) (second (i - q) (omega arith)) in
      rw place at there
]

-- four lists of one length
pub record EachLong (q : ℕ) (one two three four : List ℕ) : Type 0 where
  pub first : length one ≡ q
  pub second : length two ≡ q
  pub third : length three ≡ q
  pub fourth : length four ≡ q

pub quarters_long : (m q : ℕ) (v low high one two three four : List ℕ) → Quarters m q v low high one two three four → length v ≡ 2 * m → m ≡ 2 * q → EachLong q one two three four
quarters_long m q v low high one two three four of long twice =
    let front = length-take-le m v (omega arith) in
    let back = length-drop m v in
    let low_long : length low ≡ 2 * q = rw of.front (omega arith) in
    let high_long : length high ≡ 2 * q = rw of.back (omega arith) in
    let second = length-drop q low in
    let fourth = length-drop q high in
    record {
      first = rw of.first (length-take-le q low (omega arith));
      second = rw of.second (omega arith);
      third = rw of.third (length-take-le q high (omega arith));
      fourth = rw of.fourth (omega arith);
    }

-- as long as others are
pub as_long : (q : ℕ) (one two three four x1 x2 x3 x4 : List ℕ) → EachLong q one two three four → length x1 ≡ length one → length x2 ≡ length two → length x3 ≡ length three → length x4 ≡ length four → EachLong q x1 x2 x3 x4
as_long q one two three four x1 x2 x3 x4 long first second third fourth = record { first = first ∙ long.first; second = second ∙ long.second; third = third ∙ long.third; fourth = fourth ∙ long.fourth }

-- four lists of remainders
pub record EachLess (b : ℕ) (one two three four : List ℕ) : Type 0 where
  pub first : AreRemainders b one
  pub second : AreRemainders b two
  pub third : AreRemainders b three
  pub fourth : AreRemainders b four

pub quarters_are : (b m q : ℕ) (v low high one two three four : List ℕ) → Quarters m q v low high one two three four → length v ≡ 2 * m → m ≡ 2 * q → AreRemainders b v → EachLess b one two three four
quarters_are b m q v low high one two three four of long twice are =
    let front = length-take-le m v (omega arith) in
    let back = length-drop m v in
    let low_are : AreRemainders b low = rw of.front (remainders_take b m v (omega arith) are) in
    let high_are : AreRemainders b high = rw of.back (remainders_drop b m v are) in
    let low_long : q ≤ length low = rw of.front (omega arith) in
    let high_long : q ≤ length high = rw of.back (omega arith) in
    record {
      first = rw of.first (remainders_take b q low low_long low_are);
      second = rw of.second (remainders_drop b q low low_are);
      third = rw of.third (remainders_take b q high high_long high_are);
      fourth = rw of.fourth (remainders_drop b q high high_are);
    }

pub joined_less : (b : ℕ) (one two three four : List ℕ) → EachLess b one two three four → AreRemainders b ((one ++ two) ++ (three ++ four))
joined_less b one two three four less = remainders_both b (one ++ two) (three ++ four) (remainders_both b one two less.first less.second) (remainders_both b three four less.third less.fourth)

-- quarters of remainders below eighteen times a modulus fit two steps
pub quarters_fit : (p m q : ℕ) (v low high one two three four : List ℕ) → IsModulus p → Quarters m q v low high one two three four → length v ≡ 2 * m → m ≡ 2 * q → AreRemainders (18 * p) v →
    AreRemainders (2 ^ 32 - 4 * p) one × (AreRemainders (2 ^ 32 - 4 * p) two × (AreRemainders (2 ^ 32) three × AreRemainders (2 ^ 32) four))
quarters_fit p m q v low high one two three four modulus of long twice are =
    let front = quarters_are (2 ^ 32 - 4 * p) m q v low high one two three four of long twice (remainders_wider (18 * p) (2 ^ 32 - 4 * p) v (omega (arith, modulus)) are) in
    let back = quarters_are (2 ^ 32) m q v low high one two three four of long twice (remainders_wider (18 * p) (2 ^ 32) v (omega (arith, modulus)) are) in
    (front.first, (front.second, (back.third, back.fourth)))

-- u is the product, over 2^32, of the numbers x and those whose transform is f, at a place of the table
abbrev pub Multiplies : ℕ → List ℕ → ℕ → ℕ → ℕ → List ℕ → List ℕ → List ℕ → Type 0
Multiplies p roots k m place x f u = (s : ℤ) (a h : List ℤ) → Same (pos p) (root_at roots place *ℤ root_at roots place) s → length a ≡ m → length h ≡ m → AreSame p x a → IsTransform p roots k place h f → IsProduct p (2 ^ k) (2 ^ k * inverse_of_word p) s a h u

-- as it comes of a table of leaves
pub multiplies_by : (p levels m place : ℕ) (roots leaves f x u : List ℕ) → length x ≡ m → MultipliesBy p levels roots place leaves x u → AreLeaves p roots (2 ^ (levels - 1) * (place + 1) - 1) f leaves → Multiplies p roots levels m place x f u
multiplies_by p levels m place roots leaves f x u long product are = λ s a h square a_long h_long same transform. product s a h f square (a_long ∙ sym long) (h_long ∙ sym long) same transform are

-- a step of two levels, the products of the quarters by those of a transform, and the step back make the product of the whole
pub product_of_quarters : (p levels n k m j q place : ℕ) (roots inverses v low high one two three four f front back f1 f2 f3 f4 x1 x2 x3 x4 u1 u2 u3 u4 w1 w2 w3 w4 : List ℕ) →
    0 < p → Halved levels n k m → Halved k m j q → AreRoots p roots inverses → place < 128 →
    length v ≡ n → Quarters m q v low high one two three four → Quarters m q f front back f1 f2 f3 f4 →
    EachLong q x1 x2 x3 x4 → EachLong q u1 u2 u3 u4 → EachLong q w1 w2 w3 w4 →
    AreCongruent p (length x1) x1 (spread_first_at (levels_at roots place) one two three four) →
    AreCongruent p (length x1) x2 (spread_second_at (levels_at roots place) one two three four) →
    AreCongruent p (length x1) x3 (spread_third_at (levels_at roots place) one two three four) →
    AreCongruent p (length x1) x4 (spread_fourth_at (levels_at roots place) one two three four) →
    Multiplies p roots j q (2 * (2 * place)) x1 f4 u1 →
    Multiplies p roots j q (2 * (2 * place) + 1) x2 f3 u2 →
    Multiplies p roots j q (2 * (2 * place + 1)) x3 f2 u3 →
    Multiplies p roots j q (2 * (2 * place + 1) + 1) x4 f1 u4 →
    AreCongruent p (length w1) w1 (gather_first_at u1 u2 u3 u4) →
    AreCongruent p (length w1) w2 (gather_second_at (levels_at inverses place) u1 u2 u3 u4) →
    AreCongruent p (length w1) w3 (gather_third_at (levels_at inverses place) u1 u2 u3 u4) →
    AreCongruent p (length w1) w4 (gather_fourth_at (levels_at inverses place) u1 u2 u3 u4) →
    Multiplies p roots levels n place v f ((w1 ++ w2) ++ (w3 ++ w4))
product_of_quarters p levels n k m j q place roots inverses v low high one two three four f front back f1 f2 f3 f4 x1 x2 x3 x4 u1 u2 u3 u4 w1 w2 w3 w4 some half quarter are less v_long of_v of_f x_long u_long w_long spread1 spread2 spread3 spread4 product1 product2 product3 product4 gather1 gather2 gather3 gather4 =
    let root : ℕ = get_or roots place 0 in
    let left : ℕ = get_or roots (2 * place) 0 in
    let right : ℕ = get_or roots (2 * place + 1) 0 in
    let inverse : ℕ = get_or inverses place 0 in
    let left_inverse : ℕ = get_or inverses (2 * place) 0 in
    let right_inverse : ℕ = get_or inverses (2 * place + 1) 0 in
    let twice = half.twice in
    let again = quarter.twice in
    let low_long : length low ≡ 2 * q = rw of_v.front (length-take-le m v (omega arith) ∙ again) in
    let high_size = length-drop m v in
    let high_long : length high ≡ 2 * q = rw of_v.back (omega arith) in
    let plus : List ℕ = weighed 1 root low high in
    let minus : List ℕ = weighed 1 ((p - 1) * root) low high in
    let as_long : length low ≡ length high = omega arith in
    let plus_long : length plus ≡ 2 * q = length-weighed 1 root low high as_long ∙ low_long in
    let minus_long : length minus ≡ 2 * q = length-weighed 1 ((p - 1) * root) low high as_long ∙ low_long in
    let plus_is : (i : ℕ) → i < 2 * q → Same (pos p) (pos (get_or plus i 0)) (spread_at (pos root) low high i) = λ i lt. weighed_plus p root low high i as_long (omega arith) in
    let minus_is : (i : ℕ) → i < 2 * q → Same (pos p) (pos (get_or minus i 0)) (spread_at (neg_ℤ (pos root)) low high i) = λ i lt. weighed_minus p root low high i some as_long (omega arith) in
    let s12 : List ℕ = weighed 1 1 u1 u2 in
    let d12 : List ℕ = weighed left_inverse (p - 1) u1 u2 in
    let s34 : List ℕ = weighed 1 1 u3 u4 in
    let d34 : List ℕ = weighed right_inverse (p - 1) u3 u4 in
    let long12 : length u1 ≡ length u2 = omega arith in
    let long34 : length u3 ≡ length u4 = omega arith in
    let s12_long : length s12 ≡ q = length-weighed 1 1 u1 u2 long12 ∙ u_long.first in
    let d12_long : length d12 ≡ q = length-weighed left_inverse (p - 1) u1 u2 long12 ∙ u_long.first in
    let s34_long : length s34 ≡ q = length-weighed 1 1 u3 u4 long34 ∙ u_long.third in
    let d34_long : length d34 ≡ q = length-weighed right_inverse (p - 1) u3 u4 long34 ∙ u_long.third in
    let s12_is : (i : ℕ) → i < q → Same (pos p) (pos (get_or s12 i 0)) (sum_at u1 u2 i) = λ i lt. weighed_sum p u1 u2 i long12 (omega arith) in
    let d12_is : (i : ℕ) → i < q → Same (pos p) (pos (get_or d12 i 0)) (difference_at (pos left_inverse) u1 u2 i) = λ i lt. weighed_difference p left_inverse u1 u2 i some long12 (omega arith) in
    let s34_is : (i : ℕ) → i < q → Same (pos p) (pos (get_or s34 i 0)) (sum_at u3 u4 i) = λ i lt. weighed_sum p u3 u4 i long34 (omega arith) in
    let d34_is : (i : ℕ) → i < q → Same (pos p) (pos (get_or d34 i 0)) (difference_at (pos right_inverse) u3 u4 i) = λ i lt. weighed_difference p right_inverse u3 u4 i some long34 (omega arith) in
    let first : Multiplies p roots k m (2 * place) plus back (s12 ++ d12) =
    product_of_halves p k m j q (2 * place) left left_inverse roots inverses plus back (take q plus) (drop q plus) f3 f4 x1 x2 u1 u2 s12 d12
    quarter are (omega arith) refl refl (omega arith) refl refl of_f.third of_f.fourth x_long.first x_long.second s12_long
    (λ i lt. second_level p m q (pos root) (pos left) v low high one two three four plus x1 of_v low_long high_long plus_long plus_is (λ i lt. spread1 i (omega arith)) i (omega arith))
    (λ i lt. second_level p m q (pos root) (neg_ℤ (pos left)) v low high one two three four plus x2 of_v low_long high_long plus_long plus_is (λ i lt. spread2 i (omega arith)) i (omega arith))
    product1 product2 (λ i lt. s12_is i (omega arith)) (λ i lt. d12_is i (omega arith)) in
    let second : Multiplies p roots k m (2 * place + 1) minus front (s34 ++ d34) =
    product_of_halves p k m j q (2 * place + 1) right right_inverse roots inverses minus front (take q minus) (drop q minus) f1 f2 x3 x4 u3 u4 s34 d34
    quarter are (omega arith) refl refl (omega arith) refl refl of_f.first of_f.second x_long.third x_long.fourth s34_long
    (λ i lt. second_level p m q (neg_ℤ (pos root)) (pos right) v low high one two three four minus x3 of_v low_long high_long minus_long minus_is (λ i lt. spread3 i (omega arith)) i (omega arith))
    (λ i lt. second_level p m q (neg_ℤ (pos root)) (neg_ℤ (pos right)) v low high one two three four minus x4 of_v low_long high_long minus_long minus_is (λ i lt. spread4 i (omega arith)) i (omega arith))
    product3 product4 (λ i lt. s34_is i (omega arith)) (λ i lt. d34_is i (omega arith)) in
    let w12 = length-append w1 w2 in
    product_of_halves p levels n k m place root inverse roots inverses v f low high front back plus minus (s12 ++ d12) (s34 ++ d34) (w1 ++ w2) (w3 ++ w4)
    half are (omega arith) refl refl v_long of_v.front of_v.back of_f.front of_f.back (omega arith) (omega arith) (omega arith)
    (λ i lt. plus_is i (omega arith)) (λ i lt. minus_is i (omega arith))
    first second
    (λ i lt. of_both q (λ x u s. Same (pos p) (pos x) (pos u +ℤ pos s)) w1 w2 s12 d12 s34 d34 w_long.first w_long.second s12_long s34_long
    (λ i lt. sum_from (pos p) (pos (get_or w1 i 0)) (sum_at u1 u2 i) (sum_at u3 u4 i) (pos (get_or s12 i 0)) (pos (get_or s34 i 0)) (gather1 i (omega arith)) (same_sym (pos p) (pos (get_or s12 i 0)) (sum_at u1 u2 i) (s12_is i lt)) (same_sym (pos p) (pos (get_or s34 i 0)) (sum_at u3 u4 i) (s34_is i lt)))
    (λ i lt. sum_from (pos p) (pos (get_or w2 i 0)) (difference_at (pos left_inverse) u1 u2 i) (difference_at (pos right_inverse) u3 u4 i) (pos (get_or d12 i 0)) (pos (get_or d34 i 0)) (gather2 i (omega arith)) (same_sym (pos p) (pos (get_or d12 i 0)) (difference_at (pos left_inverse) u1 u2 i) (d12_is i lt)) (same_sym (pos p) (pos (get_or d34 i 0)) (difference_at (pos right_inverse) u3 u4 i) (d34_is i lt))) i (omega arith))
    (λ i lt. of_both q (λ x u s. Same (pos p) (pos x) (pos inverse *ℤ (pos u -ℤ pos s))) w3 w4 s12 d12 s34 d34 w_long.third w_long.fourth s12_long s34_long
    (λ i lt. difference_from (pos p) (pos (get_or w3 i 0)) (pos inverse) (sum_at u1 u2 i) (sum_at u3 u4 i) (pos (get_or s12 i 0)) (pos (get_or s34 i 0)) (gather3 i (omega arith)) (same_sym (pos p) (pos (get_or s12 i 0)) (sum_at u1 u2 i) (s12_is i lt)) (same_sym (pos p) (pos (get_or s34 i 0)) (sum_at u3 u4 i) (s34_is i lt)))
    (λ i lt. difference_from (pos p) (pos (get_or w4 i 0)) (pos inverse) (difference_at (pos left_inverse) u1 u2 i) (difference_at (pos right_inverse) u3 u4 i) (pos (get_or d12 i 0)) (pos (get_or d34 i 0)) (gather4 i (omega arith)) (same_sym (pos p) (pos (get_or d12 i 0)) (difference_at (pos left_inverse) u1 u2 i) (d12_is i lt)) (same_sym (pos p) (pos (get_or d34 i 0)) (difference_at (pos right_inverse) u3 u4 i) (d34_is i lt))) i (omega arith))
