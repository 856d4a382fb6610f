-- Sums of products, lane by lane.
use Rattle.std.proofs.Common.{◌≡◌, ℕ, zero, suc, ◌+◌, ◌*◌, ◌^◌, ◌<◌, ◌≤◌, ap, ◌∙◌, refl, arith, ℤ, pos, ◌*ℤ◌, ◌+ℤ◌, List, [], ◌∷◌, to_z, of_z, w64, FitsSigned, length, get_or, drop, take, map}
use Rattle.std.specs.Simd.Lanes.{Each1, Each2, chunk, zip2}
use Rattle.std.proofs.lemmas.Int.{ints, to_z-of_z, fits_signed_from_abs}
use Rattle.std.proofs.lemmas.List.{drop_more}
use Rattle.std.proofs.lemmas.Simd.{Each1-get_or, length-zip2}
use Rattle.fx_tap_sums.specs.Products.{sum_of_products}
use Rattle.fx_tap_sums.specs.Lanes.{LanesWithin, WithinLane, joined, joined_lanes, lane_sum}
use Rattle.fx_tap_sums.proofs.Magnitudes.{added-bound, scaled-bound}
use Rattle.fx_tap_sums.proofs.PairLanes.{signed_back}
use Rattle.fx_tap_sums.proofs.ProductBounds.{sum_of_products-drop}
use Rattle.fx_tap_sums.proofs.Numbers.{mul-add, mul_assoc}
use borrow.Rule.Simd.Lanes.{act2, Asks2}
use borrow.Table.Row.{s_int}
use mir.Syntax.{add, mul, signed}

-- four places of a list
pub chunk-four : (xs : List ℤ) (at : ℕ) (d : ℤ) → at + 4 ≤ length xs →
    chunk at 4 xs ≡ get_or xs at d ∷ get_or xs (at + 1) d ∷ get_or xs (at + 2) d ∷ get_or xs (at + 3) d ∷ []
chunk-four xs at d free =
    let one : at + 1 + 1 ≡ at + 2 = omega arith in
    let two : at + 2 + 1 ≡ at + 3 = omega arith in
    let first = drop_more xs at d (omega arith) in
    let second = rw one at (drop_more xs (at + 1) d (omega arith)) in
    let third = rw two at (drop_more xs (at + 2) d (omega arith)) in
    let fourth = drop_more xs (at + 3) d (omega arith) in
    rw (first, second, third, fourth) refl

-- ---- what fits

within_fits : (b : ℕ) (z : ℤ) → b < 2 ^ 63 → WithinLane b z → FitsSigned w64 z
within_fits b z small within = fits_signed_from_abs w64 z (omega arith)

pub each_fits : (b : ℕ) (xs : List ℤ) → b < 2 ^ 63 → Each1 (WithinLane b) xs → Each1 (FitsSigned w64) xs
each_fits b [] small within = tt
each_fits b (x ∷ xs) small within = (within_fits b x small within.0, each_fits b xs small within.1)

product_within : (m n : ℕ) (x y : ℤ) → WithinLane m x → WithinLane n y → WithinLane (m * n) (x *ℤ y)
product_within m n x y x_small y_small = scaled-bound x y m n x_small y_small

sum_within : (m n : ℕ) (x y : ℤ) → WithinLane m x → WithinLane n y → WithinLane (m + n) (x +ℤ y)
sum_within m n x y x_small y_small = added-bound x y m n x_small y_small

-- ---- lane by lane

pub mul_asked : (m n : ℕ) (xs ys : List ℤ) → m < 2 ^ 63 → n < 2 ^ 63 → m * n < 2 ^ 63 → Each1 (WithinLane m) xs → Each1 (WithinLane n) ys →
    Each2 (Asks2 (mul signed) (s_int w64) (s_int w64)) (map (of_z w64) xs) (map (of_z w64) ys)
mul_asked m n (x ∷ xs) (y ∷ ys) m_fits n_fits fits x_small y_small =
    let x_is = to_z-of_z w64 x (within_fits m x m_fits x_small.0) in
    let y_is = to_z-of_z w64 y (within_fits n y n_fits y_small.0) in
    (rw (x_is, y_is) (within_fits (m * n) (x *ℤ y) fits (product_within m n x y x_small.0 y_small.0)), mul_asked m n xs ys m_fits n_fits fits x_small.1 y_small.1)
mul_asked m n _ _ m_fits n_fits fits x_small y_small = tt

-- the bits of the products are those of the products as numbers
pub mul_bits : (m n : ℕ) (xs ys : List ℤ) → m < 2 ^ 63 → n < 2 ^ 63 → Each1 (WithinLane m) xs → Each1 (WithinLane n) ys →
    zip2 (act2 (mul signed) (s_int w64) (s_int w64) (s_int w64)) (map (of_z w64) xs) (map (of_z w64) ys) ≡ map (of_z w64) (zip2 (λ a b. a *ℤ b) xs ys)
mul_bits m n (x ∷ xs) (y ∷ ys) m_fits n_fits x_small y_small =
    let x_is = to_z-of_z w64 x (within_fits m x m_fits x_small.0) in
    let y_is = to_z-of_z w64 y (within_fits n y n_fits y_small.0) in
    let rest = mul_bits m n xs ys m_fits n_fits x_small.1 y_small.1 in
    rw (x_is, y_is, rest) refl
mul_bits m n _ _ m_fits n_fits x_small y_small = refl

add_asked : (m n : ℕ) (xs ys : List ℤ) → m < 2 ^ 63 → n < 2 ^ 63 → m + n < 2 ^ 63 → Each1 (WithinLane m) xs → Each1 (WithinLane n) ys →
    Each2 (Asks2 (add signed) (s_int w64) (s_int w64)) (map (of_z w64) xs) (map (of_z w64) ys)
add_asked m n (x ∷ xs) (y ∷ ys) m_fits n_fits fits x_small y_small =
    let x_is = to_z-of_z w64 x (within_fits m x m_fits x_small.0) in
    let y_is = to_z-of_z w64 y (within_fits n y n_fits y_small.0) in
    (rw (x_is, y_is) (within_fits (m + n) (x +ℤ y) fits (sum_within m n x y x_small.0 y_small.0)), add_asked m n xs ys m_fits n_fits fits x_small.1 y_small.1)
add_asked m n _ _ m_fits n_fits fits x_small y_small = tt

add_bits : (m n : ℕ) (xs ys : List ℤ) → m < 2 ^ 63 → n < 2 ^ 63 → Each1 (WithinLane m) xs → Each1 (WithinLane n) ys →
    zip2 (act2 (add signed) (s_int w64) (s_int w64) (s_int w64)) (map (of_z w64) xs) (map (of_z w64) ys) ≡ map (of_z w64) (zip2 (λ a b. a +ℤ b) xs ys)
add_bits m n (x ∷ xs) (y ∷ ys) m_fits n_fits x_small y_small =
    let x_is = to_z-of_z w64 x (within_fits m x m_fits x_small.0) in
    let y_is = to_z-of_z w64 y (within_fits n y n_fits y_small.0) in
    let rest = add_bits m n xs ys m_fits n_fits x_small.1 y_small.1 in
    rw (x_is, y_is, rest) refl
add_bits m n _ _ m_fits n_fits x_small y_small = refl

pub lanes_back : (m : ℕ) (xs : List ℤ) → m < 2 ^ 63 → Each1 (WithinLane m) xs → map (to_z w64) (map (of_z w64) xs) ≡ xs
lanes_back m xs fits small = signed_back w64 xs (each_fits m xs fits small)

-- four lanes that were passed on
abbrev pub passed_wide : List ℤ → List ℤ
passed_wide xs = map (to_z w64) (map (of_z w64) xs)

pub wide_back : (m : ℕ) (xs : List ℤ) → m < 2 ^ 63 → LanesWithin m xs → passed_wide xs ≡ xs
wide_back m xs fits small = lanes_back m xs fits small.small

pub wide-within : (m : ℕ) (xs : List ℤ) → m < 2 ^ 63 → LanesWithin m xs → LanesWithin m (passed_wide xs)
wide-within m xs fits small = rw (wide_back m xs fits small) small

pub products_within : (m n : ℕ) (xs ys : List ℤ) → Each1 (WithinLane m) xs → Each1 (WithinLane n) ys → Each1 (WithinLane (m * n)) (zip2 (λ a b. a *ℤ b) xs ys)
products_within m n (x ∷ xs) (y ∷ ys) x_small y_small = (product_within m n x y x_small.0 y_small.0, products_within m n xs ys x_small.1 y_small.1)
products_within m n _ _ x_small y_small = tt

sums_within : (m n : ℕ) (xs ys : List ℤ) → Each1 (WithinLane m) xs → Each1 (WithinLane n) ys → Each1 (WithinLane (m + n)) (zip2 (λ a b. a +ℤ b) xs ys)
sums_within m n (x ∷ xs) (y ∷ ys) x_small y_small = (sum_within m n x y x_small.0 y_small.0, sums_within m n xs ys x_small.1 y_small.1)
sums_within m n _ _ x_small y_small = tt

pub wider : (m n : ℕ) (xs : List ℤ) → m ≤ n → Each1 (WithinLane m) xs → Each1 (WithinLane n) xs
wider m n [] le small = tt
wider m n (x ∷ xs) le small = (omega arith, wider m n xs le small.1)

lane_sum-add : (xs ys : List ℤ) → length xs ≡ length ys → lane_sum (zip2 (λ a b. a +ℤ b) xs ys) ≡ (lane_sum xs +ℤ lane_sum ys)
lane_sum-add [] [] same = refl
lane_sum-add (x ∷ xs) (y ∷ ys) same =
    let rest = lane_sum-add xs ys (omega arith) in
    omega (arith, ints)
lane_sum-add _ _ same = absurd (omega arith)

lane_sum-products : (xs ys : List ℤ) → lane_sum (zip2 (λ a b. a *ℤ b) xs ys) ≡ sum_of_products xs ys
lane_sum-products (x ∷ xs) (y ∷ ys) = ap (λ z. (x *ℤ y) +ℤ z) (lane_sum-products xs ys)
lane_sum-products _ _ = refl

pub lanes_are : (k m n : ℕ) (sums xs ys : List ℤ) → k < 2 ^ 63 → m < 2 ^ 63 → n < 2 ^ 63 → m * n < 2 ^ 63 → k + m * n < 2 ^ 63 → LanesWithin k sums → LanesWithin m xs → LanesWithin n ys →
    map (to_z w64) (zip2 (act2 (add signed) (s_int w64) (s_int w64) (s_int w64)) (map (of_z w64) sums) (zip2 (act2 (mul signed) (s_int w64) (s_int w64) (s_int w64)) (map (of_z w64) xs) (map (of_z w64) ys)))
    ≡ zip2 (λ a b. a +ℤ b) sums (zip2 (λ a b. a *ℤ b) xs ys)
lanes_are k m n sums xs ys k_fits m_fits n_fits product_fits sum_fits sums_small x_small y_small =
    let products = products_within m n xs ys x_small.small y_small.small in
    let bits = mul_bits m n xs ys m_fits n_fits x_small.small y_small.small in
    rw (bits, add_bits k (m * n) sums (zip2 (λ a b. a *ℤ b) xs ys) k_fits product_fits sums_small.small products)
    (lanes_back (k + m * n) (zip2 (λ a b. a +ℤ b) sums (zip2 (λ a b. a *ℤ b) xs ys)) sum_fits (sums_within k (m * n) sums (zip2 (λ a b. a *ℤ b) xs ys) sums_small.small products))

pub sums_asked : (k m n : ℕ) (sums xs ys : List ℤ) → k < 2 ^ 63 → m < 2 ^ 63 → n < 2 ^ 63 → m * n < 2 ^ 63 → k + m * n < 2 ^ 63 → LanesWithin k sums → LanesWithin m xs → LanesWithin n ys →
    Each2 (Asks2 (add signed) (s_int w64) (s_int w64)) (map (of_z w64) sums) (zip2 (act2 (mul signed) (s_int w64) (s_int w64) (s_int w64)) (map (of_z w64) xs) (map (of_z w64) ys))
sums_asked k m n sums xs ys k_fits m_fits n_fits product_fits sum_fits sums_small x_small y_small =
    rw (mul_bits m n xs ys m_fits n_fits x_small.small y_small.small)
    (add_asked k (m * n) sums (zip2 (λ a b. a *ℤ b) xs ys) k_fits product_fits sum_fits sums_small.small (products_within m n xs ys x_small.small y_small.small))

pub kernel_value : (sums xs ys : List ℤ) → length sums ≡ 4 → length xs ≡ 4 → length ys ≡ 4 →
    lane_sum (zip2 (λ a b. a +ℤ b) sums (zip2 (λ a b. a *ℤ b) xs ys)) ≡ (lane_sum sums +ℤ sum_of_products xs ys)
kernel_value sums xs ys s_four x_four y_four =
    let four = length-zip2 (λ a b. a *ℤ b) xs ys (omega arith) in
    lane_sum-add sums (zip2 (λ a b. a *ℤ b) xs ys) (omega arith) ∙ ap (λ z. lane_sum sums +ℤ z) (lane_sum-products xs ys)

pub kernel_small : (k l m n : ℕ) (sums xs ys : List ℤ) → k + m * n ≤ l → LanesWithin k sums → LanesWithin m xs → LanesWithin n ys →
    LanesWithin l (zip2 (λ a b. a +ℤ b) sums (zip2 (λ a b. a *ℤ b) xs ys))
kernel_small k l m n sums xs ys free sums_small x_small y_small =
    let x_four = x_small.four in
    let y_four = y_small.four in
    let s_four = sums_small.four in
    let four = length-zip2 (λ a b. a *ℤ b) xs ys (omega arith) in
    let size = length-zip2 (λ a b. a +ℤ b) sums (zip2 (λ a b. a *ℤ b) xs ys) (omega arith) in
    record {
      four = omega arith;
      small = wider (k + m * n) l (zip2 (λ a b. a +ℤ b) sums (zip2 (λ a b. a *ℤ b) xs ys)) free (sums_within k (m * n) sums (zip2 (λ a b. a *ℤ b) xs ys) sums_small.small (products_within m n xs ys x_small.small y_small.small));
    }

-- four lanes
pub lane_sum-four : (xs : List ℤ) → length xs ≡ 4 → lane_sum xs ≡ ((get_or xs 0 (pos 0) +ℤ get_or xs 1 (pos 0)) +ℤ (get_or xs 2 (pos 0) +ℤ get_or xs 3 (pos 0)))
lane_sum-four (a ∷ b ∷ c ∷ d ∷ []) four = omega (arith, ints)
lane_sum-four _ four = absurd (omega arith)

pub lane_sum-within : (m : ℕ) (xs : List ℤ) → Each1 (WithinLane m) xs → WithinLane (length xs * m) (lane_sum xs)
lane_sum-within m [] small = omega arith
lane_sum-within m (x ∷ xs) small =
    let more : suc (length xs) * m ≡ m + length xs * m = omega arith in
    rw more (sum_within m (length xs * m) x (lane_sum xs) small.0 (lane_sum-within m xs small.1))

pub lane_fits : (m i : ℕ) (xs : List ℤ) → m < 2 ^ 63 → i < 4 → LanesWithin m xs → FitsSigned w64 (get_or xs i (pos 0))
lane_fits m i xs fits place small =
    let four = small.four in
    within_fits m (get_or xs i (pos 0)) fits (Each1-get_or (WithinLane m) xs i (pos 0) (omega arith) small.small)

-- ---- sums of products, block by block

joined-mul : (x h l : ℤ) → x *ℤ joined h l ≡ joined (x *ℤ h) (x *ℤ l)
joined-mul x h l = mul-add x (h *ℤ pos 33554432) l ∙ ap (λ z. z +ℤ (x *ℤ l)) (mul_assoc x h (pos 33554432))

-- the sum of products with coefficients in two parts
pub sum_of_products-joined : (xs hs ls : List ℤ) → length hs ≡ length xs → length ls ≡ length xs →
    sum_of_products xs (joined_lanes hs ls) ≡ joined (sum_of_products xs hs) (sum_of_products xs ls)
sum_of_products-joined [] [] [] h_same l_same = refl
sum_of_products-joined (x ∷ xs) (h ∷ hs) (l ∷ ls) h_same l_same =
    let rest = sum_of_products-joined xs hs ls (omega arith) (omega arith) in
    omega (arith, ints, joined-mul x h l)
sum_of_products-joined _ _ _ h_same l_same = absurd (omega arith)

pub sum_of_products-block : (xs cs : List ℤ) (at : ℕ) → at + 4 ≤ length xs → at + 4 ≤ length cs →
    sum_of_products (drop at xs) (drop at cs) ≡ (sum_of_products (chunk at 4 xs) (chunk at 4 cs) +ℤ sum_of_products (drop (at + 4) xs) (drop (at + 4) cs))
sum_of_products-block xs cs at in_xs in_cs =
    let two : at + 1 + 1 ≡ at + 2 = omega arith in
    let three : at + 2 + 1 ≡ at + 3 = omega arith in
    let four : at + 3 + 1 ≡ at + 4 = omega arith in
    let xs_are = chunk-four xs at (pos 0) in_xs in
    let cs_are = chunk-four cs at (pos 0) in_cs in
    let block : sum_of_products (chunk at 4 xs) (chunk at 4 cs) ≡ sum_of_products (get_or xs at (pos 0) ∷ get_or xs (at + 1) (pos 0) ∷ get_or xs (at + 2) (pos 0) ∷ get_or xs (at + 3) (pos 0) ∷ []) (get_or cs at (pos 0) ∷ get_or cs (at + 1) (pos 0) ∷ get_or cs (at + 2) (pos 0) ∷ get_or cs (at + 3) (pos 0) ∷ []) = rw (xs_are, cs_are) refl in
    let first = sum_of_products-drop xs cs at (pos 0) (pos 0) (omega arith) (omega arith) in
    let second = rw two at (sum_of_products-drop xs cs (at + 1) (pos 0) (pos 0) (omega arith) (omega arith)) in
    let third = rw three at (sum_of_products-drop xs cs (at + 2) (pos 0) (pos 0) (omega arith) (omega arith)) in
    let fourth = rw four at (sum_of_products-drop xs cs (at + 3) (pos 0) (pos 0) (omega arith) (omega arith)) in
    omega (arith, ints)

-- one block more in the two sums
pub block_added : (whole rest high low next_high next_low block high_part low_part : ℤ) →
    (joined high low +ℤ (block +ℤ rest)) ≡ whole → next_high ≡ (high +ℤ high_part) → next_low ≡ (low +ℤ low_part) → block ≡ joined high_part low_part →
    (joined next_high next_low +ℤ rest) ≡ whole
block_added whole rest high low next_high next_low block high_part low_part before high_is low_is block_is = omega (arith, ints)

-- a sum of products in two parts
pub sum_of_products-parted : (xs cs : List ℤ) (n : ℕ) → sum_of_products xs cs ≡ (sum_of_products (take n xs) (take n cs) +ℤ sum_of_products (drop n xs) (drop n cs))
sum_of_products-parted xs cs zero = omega (arith, ints)
sum_of_products-parted [] cs (suc n) = refl
sum_of_products-parted (x ∷ xs) [] (suc n) = none (drop n xs)
  where
    none : (l : List ℤ) → pos 0 ≡ (pos 0 +ℤ sum_of_products l [])
    none [] = refl
    none (a ∷ l) = refl
sum_of_products-parted (x ∷ xs) (c ∷ cs) (suc n) = omega (arith, ints, sum_of_products-parted xs cs n)
