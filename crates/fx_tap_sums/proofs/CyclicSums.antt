-- A cyclic product of padded lists is a list of plain sums.
use Rattle.std.proofs.Common.{◌≡◌, ◌+◌, ◌-◌, ◌*◌, ◌<◌, ◌≤◌, ◌^◌, ap, ◌∙◌, sym, refl, ℕ, suc, arith, ℤ, pos, ◌*ℤ◌, List, [], ◌∷◌, length, get_or, drop, take, unsigned_abs, map, replicate, sum_by}
use Rattle.std.proofs.lemmas.Int.{ints, unsigned_abs-mul}
use Rattle.std.proofs.lemmas.Nat.{mul-le}
use Rattle.std.proofs.lemmas.List.{length-drop, length-append, length-replicate, length-map, length-take-le, get_or-drop, get_or-take, get_or_past}
use Rattle.std.proofs.lemmas.List.Sums.{sum_by-cons}
use borrow.Author.Differences.{product_is}
use Rattle.fx_frame_base.proofs.ListPlaces.{zeros-rest, zeros-sample}
use Rattle.fx_tap_sums.specs.Products.{sum_of_products}
use Rattle.fx_tap_sums.specs.Residues.{Same}
use Rattle.fx_tap_sums.specs.Transform.{cyclic}
use Rattle.fx_tap_sums.specs.Prepared.{padded_weights}
use Rattle.fx_tap_sums.proofs.Magnitudes.{added-bound}
use Rattle.fx_tap_sums.proofs.Numbers.{mul-add, mul_assoc, mul_swap, one-times}
use Rattle.fx_tap_sums.proofs.Residues.{same_is, same_on, same_times}
use Rattle.fx_tap_sums.proofs.Cyclic.{append_right, nothing}

-- only so many places count
agree : (xs ys cs : List ℤ) → length cs ≤ length xs → length cs ≤ length ys → ((k : ℕ) → k < length cs → get_or xs k (pos 0) ≡ get_or ys k (pos 0)) →
    sum_of_products xs cs ≡ sum_of_products ys cs
agree xs ys [] x_long y_long are = nothing xs ∙ sym (nothing ys)
agree (x ∷ xs) (y ∷ ys) (c ∷ cs) x_long y_long are =
    let rest = agree xs ys cs (omega arith) (omega arith) (λ k h. are (suc k) (omega arith)) in
    let first : x ≡ y = are 0 (omega arith) in
    rw (first, rest) refl
agree _ _ _ x_long y_long are = absurd (omega arith)

-- a window that is cut after the places that count
pub cut : (n i : ℕ) (w ws : List ℤ) → n ≤ length w → i + length ws ≤ n → sum_of_products (drop i (take n w)) ws ≡ sum_of_products (drop i w) ws
cut n i w ws bound lt =
    let front = length-take-le n w bound in
    let short = length-drop i (take n w) in
    let long = length-drop i w in
    agree (drop i (take n w)) (drop i w) ws (omega arith) (omega arith) (λ k below.
    let inside : i + k < n = omega arith in
    get_or-drop i (take n w) k (pos 0) ∙ get_or-take n w (i + k) (pos 0) inside ∙ sym (get_or-drop i w k (pos 0)))

pub zeros : (xs cs : List ℤ) → ((k : ℕ) → get_or cs k (pos 0) ≡ pos 0) → sum_of_products xs cs ≡ pos 0
zeros (x ∷ xs) (c ∷ cs) none =
    let first : c ≡ pos 0 = none 0 in
    let rest = zeros xs cs (λ k. none (suc k)) in
    let product = product_is x (pos 0) in
    rw (first, rest) (omega (arith, ints))
zeros _ _ none = refl

pub times : (r : ℤ) (xs cs : List ℤ) → sum_of_products xs (map (λ c. r *ℤ c) cs) ≡ r *ℤ sum_of_products xs cs
times r [] cs = let none = product_is r (pos 0) in omega (arith, ints)
times r (x ∷ xs) [] = let none = product_is r (pos 0) in omega (arith, ints)
times r (x ∷ xs) (c ∷ cs) = omega (arith, ints, times r xs cs, mul_swap x r c, mul-add r (x *ℤ c) (sum_of_products xs cs))

-- ---- zeros after a list

pub padded_at : (n : ℕ) (xs : List ℤ) (k : ℕ) → get_or (padded_weights n xs) k (pos 0) ≡ get_or xs k (pos 0)
padded_at n xs k = zeros-rest xs (n - length xs) k

pub length-padded : (n : ℕ) (xs : List ℤ) → length xs ≤ n → length (padded_weights n xs) ≡ n
length-padded n xs bound = omega (arith, length-append xs (replicate (n - length xs) (pos 0)), length-replicate (n - length xs) (pos 0))

-- ---- plain sums

-- what stays of a cyclic product meets zeros only
kept : (a hs : List ℤ) (n i : ℕ) → length hs ≤ n → i + length hs < n → sum_of_products a (drop (length (padded_weights n hs) - 1 - i) (padded_weights n hs)) ≡ pos 0
kept a hs n i bound small =
    let long = length-padded n hs bound in
    zeros a (drop (length (padded_weights n hs) - 1 - i) (padded_weights n hs)) (λ k. get_or-drop (length (padded_weights n hs) - 1 - i) (padded_weights n hs) k (pos 0) ∙ padded_at n hs (length (padded_weights n hs) - 1 - i + k) ∙ get_or_past hs (length (padded_weights n hs) - 1 - i + k) (pos 0) (omega arith))

-- what comes round is a plain sum
pub round_is : (w hs : List ℤ) (n i : ℕ) → length w < n → i + length hs ≤ length w → sum_of_products (drop (i + 1) (padded_weights n (pos 0 ∷ w))) (padded_weights n hs) ≡ sum_of_products (drop i w) hs
round_is w hs n i bound lt =
    let u : List ℤ = drop (i + 1) (padded_weights n (pos 0 ∷ w)) in
    let zs : List ℤ = replicate (n - length hs) (pos 0) in
    let split = append_right u hs zs in
    let none = zeros (drop (length hs) u) zs (zeros-sample (n - length hs)) in
    let a_long = length-padded n (pos 0 ∷ w) (omega arith) in
    let u_long = length-drop (i + 1) (padded_weights n (pos 0 ∷ w)) in
    let w_long = length-drop i w in
    let same = agree u (drop i w) hs (omega arith) (omega arith) (λ k below. get_or-drop (i + 1) (padded_weights n (pos 0 ∷ w)) k (pos 0) ∙ padded_at n (pos 0 ∷ w) (i + 1 + k) ∙ shifted i k ∙ sym (get_or-drop i w k (pos 0))) in
    omega (arith, ints)
  where
    shifted : (i k : ℕ) → get_or (pos 0 ∷ w) (i + 1 + k) (pos 0) ≡ get_or w (i + k) (pos 0)
    shifted i k = let place : i + 1 + k ≡ suc (i + k) = omega arith in rw place refl

-- a scale that is taken away
pub unscaled_is : (p factor v scale whole total : ℤ) → whole ≡ scale *ℤ total → Same p (scale *ℤ factor) (pos 1) → Same p v (factor *ℤ whole) → Same p v total
unscaled_is p factor v scale whole total whole_is scaled is =
    let order : factor *ℤ whole ≡ (scale *ℤ factor) *ℤ total = ap (λ z. factor *ℤ z) whole_is ∙ mul_swap factor scale total ∙ mul_assoc scale factor total in
    same_on p v (factor *ℤ whole) total is (same_on p (factor *ℤ whole) ((scale *ℤ factor) *ℤ total) total (same_is p _ _ order)
    (same_on p ((scale *ℤ factor) *ℤ total) (pos 1 *ℤ total) total (same_times p total (scale *ℤ factor) (pos 1) scaled) (same_is p (pos 1 *ℤ total) total (one-times total))))

pub plain_sum : (n : ℕ) (p factor v scale : ℤ) (w ws : List ℤ) (i : ℕ) → length w < n → i + length ws ≤ length w → Same p (scale *ℤ factor) (pos 1) →
    Same p v (factor *ℤ cyclic (pos 1) (padded_weights n (pos 0 ∷ w)) (padded_weights n (map (λ c. scale *ℤ c) ws)) i) →
    Same p v (sum_of_products (drop i w) ws)
plain_sum n p factor v scale w ws i bound lt scaled is =
    let hs : List ℤ = map (λ c. scale *ℤ c) ws in
    let h_long : length hs ≡ length ws = length-map ws (λ c. scale *ℤ c) in
    let total : ℤ = sum_of_products (drop i w) ws in
    let nought : sum_of_products (padded_weights n (pos 0 ∷ w)) (drop (length (padded_weights n hs) - 1 - i) (padded_weights n hs)) ≡ pos 0 = kept (padded_weights n (pos 0 ∷ w)) hs n i (omega arith) (omega arith) in
    let round : sum_of_products (drop (i + 1) (padded_weights n (pos 0 ∷ w))) (padded_weights n hs) ≡ scale *ℤ total = round_is w hs n i (omega arith) (omega arith) ∙ times scale (drop i w) ws in
    let once = product_is (pos 1) (sum_of_products (drop (i + 1) (padded_weights n (pos 0 ∷ w))) (padded_weights n hs)) in
    let whole : cyclic (pos 1) (padded_weights n (pos 0 ∷ w)) (padded_weights n hs) i ≡ scale *ℤ total = omega (arith, ints) in
    unscaled_is p factor v scale _ total whole scaled is

-- ---- sizes

sum-within : (maximum : ℕ) (xs cs : List ℤ) → ((k : ℕ) → unsigned_abs (get_or xs k (pos 0)) ≤ maximum) → unsigned_abs (sum_of_products xs cs) ≤ maximum * sum_by unsigned_abs cs
sum-within maximum (x ∷ xs) (c ∷ cs) small =
    let rest = sum-within maximum xs cs (λ k. small (suc k)) in
    let first : unsigned_abs x ≤ maximum = small 0 in
    let size = unsigned_abs-mul x c in
    let self : unsigned_abs c ≤ unsigned_abs c = omega arith in
    let product : unsigned_abs x * unsigned_abs c ≤ maximum * unsigned_abs c = mul-le (unsigned_abs x) (unsigned_abs c) maximum (unsigned_abs c) first self in
    let sum : unsigned_abs (sum_of_products (x ∷ xs) (c ∷ cs)) ≤ unsigned_abs (x *ℤ c) + unsigned_abs (sum_of_products xs cs) = added-bound (x *ℤ c) (sum_of_products xs cs) _ _ (omega arith) (omega arith) in
    let gain = sum_by-cons unsigned_abs c cs in
    let total : maximum * (unsigned_abs c + sum_by unsigned_abs cs) ≡ maximum * unsigned_abs c + maximum * sum_by unsigned_abs cs = omega arith in
    rw gain (omega arith)
sum-within maximum _ _ small = omega arith

-- a sum of bounded samples and weights that are prepared for transforms
pub sum_bound : (maximum : ℕ) (w ws : List ℤ) (i : ℕ) → ((k : ℕ) → unsigned_abs (get_or w k (pos 0)) ≤ maximum) → sum_by unsigned_abs ws ≤ 2 ^ 30 → unsigned_abs (sum_of_products (drop i w) ws) ≤ maximum * 2 ^ 30
sum_bound maximum w ws i samples small =
    let whole = sum-within maximum (drop i w) ws (λ k. rw (get_or-drop i w k (pos 0)) (samples (i + k))) in
    let same : maximum ≤ maximum = omega arith in
    let product : maximum * sum_by unsigned_abs ws ≤ maximum * 2 ^ 30 = mul-le maximum (sum_by unsigned_abs ws) maximum (2 ^ 30) same small in
    omega (arith, whole, product)
