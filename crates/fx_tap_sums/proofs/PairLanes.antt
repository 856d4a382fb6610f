-- Products of numbers of 16 bits, two neighbours added up, lane by lane.
use Rattle.std.proofs.Common.{◌≡◌, ℕ, zero, suc, sym, inl, inr, ◌⊎◌, ◌+◌, ◌-◌, ◌*◌, ◌/◌, ◌%◌, ◌^◌, ◌<◌, ◌≤◌, ap, ◌∙◌, refl, arith, ℤ, pos, negsuc, ◌*ℤ◌, ◌+ℤ◌, List, [], ◌∷◌, ◌++◌, to_z, of_z, w32, w64, FitsSigned, length, get_or, drop, take, replicate, map, unsigned_abs, w16, ◌-ℤ◌}
use Rattle.std.proofs.Math.Nat.{lt_of_mul-lt-mul_right}
use Rattle.fx_tap_sums.proofs.Numbers.{add-mul}
use Rattle.std.specs.Simd.Lanes.{Each1, Each2, chunk, zip2}
use Rattle.std.proofs.lemmas.Bool.{cases_lt}
use Rattle.std.proofs.lemmas.Int.{ints, to_z-of_z, to_z_pos, fits_signed_from_abs, fits_signed_mul, unsigned_abs-mul}
use Rattle.std.proofs.lemmas.Simd.{Each1-get_or, Each1-from_get_or, length-zip2, get_or-replicate, get_or-zip2, get_or-chunk, length-chunk}
use Rattle.std.proofs.lemmas.List.{get_or-map, get_or_append_left, get_or-append_right, length-map, length-drop, length-take-le, take_all}
use Rattle.fx_tap_sums.specs.Lanes.{LanesWithin, WithinLane}
use Rattle.fx_tap_sums.specs.Pairs.{EightHalves, FourFit, IsFloor, IsSplit, joined_halves, pair_product}
use borrow.Rule.Simd.Lanes.{act1, act2, Asks1, Asks2}
use borrow.Table.Row.{s_int}
use lib.Signed.{mag_shr, shr_z}
use mir.Syntax.{Width, shr, add, sub, mul, cast, signed}

-- ---- numbers of 16 bits in 32

pub half-bound : (x : ℤ) → FitsSigned w16 x → unsigned_abs x ≤ 2 ^ 15
half-bound x fits = omega (arith, ints)

half_fits : (x : ℤ) → FitsSigned w16 x → FitsSigned w32 x
half_fits x fits = let bound = half-bound x fits in fits_signed_from_abs w32 x (omega arith)

pub product_fits : (x y : ℤ) → FitsSigned w16 x → FitsSigned w16 y → FitsSigned w32 (x *ℤ y)
product_fits x y f g = fits_signed_mul w32 x y (2 ^ 15) (2 ^ 15) (half-bound x f) (half-bound y g) (omega arith)

-- the bits of a number of 16 bits, in 32
abbrev pub widened : List ℤ → List ℕ
widened xs = map (act1 (cast signed signed w32) (s_int w16) (s_int w32)) (map (of_z w16) xs)

pub mul_asked : (xs ys : List ℤ) → Each1 (FitsSigned w16) xs → Each1 (FitsSigned w16) ys → Each2 (Asks2 (mul signed) (s_int w32) (s_int w32)) (widened xs) (widened ys)
mul_asked (x ∷ xs) (y ∷ ys) f g =
    let x_half = to_z-of_z w16 x f.0 in
    let y_half = to_z-of_z w16 y g.0 in
    let x_is = to_z-of_z w32 x (half_fits x f.0) in
    let y_is = to_z-of_z w32 y (half_fits y g.0) in
    (rw (x_half, y_half, x_is, y_is) (product_fits x y f.0 g.0), mul_asked xs ys f.1 g.1)
mul_asked _ _ f g = tt

pub mul_bits : (xs ys : List ℤ) → Each1 (FitsSigned w16) xs → Each1 (FitsSigned w16) ys
    → zip2 (act2 (mul signed) (s_int w32) (s_int w32) (s_int w32)) (widened xs) (widened ys) ≡ map (of_z w32) (zip2 (λ a b. a *ℤ b) xs ys)
mul_bits (x ∷ xs) (y ∷ ys) f g =
    let x_half = to_z-of_z w16 x f.0 in
    let y_half = to_z-of_z w16 y g.0 in
    let x_is = to_z-of_z w32 x (half_fits x f.0) in
    let y_is = to_z-of_z w32 y (half_fits y g.0) in
    let rest = mul_bits xs ys f.1 g.1 in
    rw (x_half, y_half, x_is, y_is, rest) refl
mul_bits _ _ f g = refl

pub products_fit : (xs ys : List ℤ) → Each1 (FitsSigned w16) xs → Each1 (FitsSigned w16) ys → Each1 (FitsSigned w32) (zip2 (λ a b. a *ℤ b) xs ys)
products_fit (x ∷ xs) (y ∷ ys) f g = (product_fits x y f.0 g.0, products_fit xs ys f.1 g.1)
products_fit _ _ f g = tt

-- ---- lists of four and eight

pub four_of : (xs : List ℤ) → length xs ≡ 4 → xs ≡ get_or xs 0 (pos 0) ∷ get_or xs 1 (pos 0) ∷ get_or xs 2 (pos 0) ∷ get_or xs 3 (pos 0) ∷ []
four_of (a ∷ b ∷ c ∷ d ∷ []) l = refl
four_of _ l = absurd (omega arith)

-- a fact of each lane of four
pub each_of_four : (P : ℕ → Type 0) → P 0 → P 1 → P 2 → P 3 → (k : ℕ) → k < 4 → P k
each_of_four P a b c d zero l = a
each_of_four P a b c d (suc zero) l = b
each_of_four P a b c d (suc (suc zero)) l = c
each_of_four P a b c d (suc (suc (suc zero))) l = d
each_of_four P a b c d (suc (suc (suc (suc k)))) l = absurd (omega arith)

-- lanes that were passed on
pub signed_back : (w : Width) (xs : List ℤ) → Each1 (FitsSigned w) xs → map (to_z w) (map (of_z w) xs) ≡ xs
signed_back w [] fits = refl
signed_back w (x ∷ xs) fits =
    let first = to_z-of_z w x fits.0 in
    let rest = signed_back w xs fits.1 in
    cc

-- ---- lanes by number

pub lane_fits : (xs : List ℤ) (j : ℕ) → j < length xs → Each1 (FitsSigned w32) xs → FitsSigned w32 (get_or xs j (pos 0))
lane_fits xs j l fits = Each1-get_or (FitsSigned w32) xs j (pos 0) l fits

-- the bits of a lane of two vectors one after the other
pub lane_left : (w : Width) (xs ys : List ℤ) (j : ℕ) → j < length xs → Each1 (FitsSigned w) xs → to_z w (get_or (map (of_z w) xs ++ map (of_z w) ys) j 0) ≡ get_or xs j (pos 0)
lane_left w xs ys j l fits =
    let size : length (map (of_z w) xs) ≡ length xs = length-map xs (of_z w) in
    ap (to_z w) (get_or_append_left (map (of_z w) xs) (map (of_z w) ys) 0 j (omega (arith, size, l)) ∙ get_or-map (of_z w) xs j (pos 0) 0 l)
    ∙ to_z-of_z w (get_or xs j (pos 0)) (Each1-get_or (FitsSigned w) xs j (pos 0) l fits)

pub lane_right : (w : Width) (xs ys : List ℤ) (j i : ℕ) → j ≡ length xs + i → i < length ys → Each1 (FitsSigned w) ys → to_z w (get_or (map (of_z w) xs ++ map (of_z w) ys) j 0) ≡ get_or ys i (pos 0)
lane_right w xs ys j i is l fits =
    let size : length (map (of_z w) xs) ≡ length xs = length-map xs (of_z w) in
    let place : j - length xs ≡ i = omega (arith, is) in
    ap (to_z w) (get_or-append_right (map (of_z w) xs) (map (of_z w) ys) (length xs) j 0 size (omega (arith, is)) ∙ ap (λ n. get_or (map (of_z w) ys) n 0) place ∙ get_or-map (of_z w) ys i (pos 0) 0 l)
    ∙ to_z-of_z w (get_or ys i (pos 0)) (Each1-get_or (FitsSigned w) ys i (pos 0) l fits)

-- the same, stored once more
abbrev pub stored : ℤ → ℤ
stored z = to_z w32 (of_z w32 z)

pub stored_back : (z x : ℤ) → z ≡ x → FitsSigned w32 x → stored z ≡ x
stored_back z x is fits = rw is (to_z-of_z w32 x fits)

-- ---- two neighbouring products

product_is : (xs ys zs : List ℤ) (j : ℕ) → zs ≡ zip2 (λ a b. a *ℤ b) xs ys → j < length xs → j < length ys → get_or zs j (pos 0) ≡ get_or xs j (pos 0) *ℤ get_or ys j (pos 0)
product_is xs ys zs j is l m = ap (λ (ws : List ℤ). get_or ws j (pos 0)) is ∙ get_or-zip2 (λ a b. a *ℤ b) xs ys j (pos 0) (pos 0) (pos 0) l m

neighbours : (xs ys zs : List ℤ) (j : ℕ) → EightHalves xs → EightHalves ys → zs ≡ zip2 (λ a b. a *ℤ b) xs ys → length zs ≡ 8 → Each1 (FitsSigned w32) zs → j + 1 < 8
    → stored (to_z w32 (get_or (map (of_z w32) zs ++ map (of_z w32) zs) j 0)) +ℤ stored (to_z w32 (get_or (map (of_z w32) zs ++ map (of_z w32) zs) (j + 1) 0)) ≡ pair_product xs j ys j
neighbours xs ys zs j x y is long fits l =
    let first = stored_back _ _ (lane_left w32 zs zs j (omega (arith, long, l)) fits) (lane_fits zs j (omega (arith, long, l)) fits) ∙ product_is xs ys zs j is (omega (arith, x.eight, l)) (omega (arith, y.eight, l)) in
    let second = stored_back _ _ (lane_left w32 zs zs (j + 1) (omega (arith, long, l)) fits) (lane_fits zs (j + 1) (omega (arith, long, l)) fits) ∙ product_is xs ys zs (j + 1) is (omega (arith, x.eight, l)) (omega (arith, y.eight, l)) in
    rw (first, second) refl

pub pair_fits : (xs ys zs : List ℤ) (j : ℕ) → EightHalves xs → EightHalves ys → zs ≡ zip2 (λ a b. a *ℤ b) xs ys → length zs ≡ 8 → Each1 (FitsSigned w32) zs → j + 1 < 8 → unsigned_abs (pair_product xs j ys j) < 2 ^ 31
    → FitsSigned w32 (stored (to_z w32 (get_or (map (of_z w32) zs ++ map (of_z w32) zs) j 0)) +ℤ stored (to_z w32 (get_or (map (of_z w32) zs ++ map (of_z w32) zs) (j + 1) 0)))
pair_fits xs ys zs j x y is long fits l small = rw (neighbours xs ys zs j x y is long fits l) (fits_signed_from_abs w32 (pair_product xs j ys j) small)

pub pair_is : (xs ys zs : List ℤ) (j : ℕ) → EightHalves xs → EightHalves ys → zs ≡ zip2 (λ a b. a *ℤ b) xs ys → length zs ≡ 8 → Each1 (FitsSigned w32) zs → j + 1 < 8 → unsigned_abs (pair_product xs j ys j) < 2 ^ 31
    → stored (stored (to_z w32 (get_or (map (of_z w32) zs ++ map (of_z w32) zs) j 0)) +ℤ stored (to_z w32 (get_or (map (of_z w32) zs ++ map (of_z w32) zs) (j + 1) 0))) ≡ pair_product xs j ys j
pair_is xs ys zs j x y is long fits l small = stored_back _ _ (neighbours xs ys zs j x y is long fits l) (fits_signed_from_abs w32 (pair_product xs j ys j) small)

-- ---- lanes added

abbrev pub AddsFit : List ℤ → List ℤ → Type 0
AddsFit xs ys = Each2 (λ (a b : ℤ). FitsSigned w32 (a +ℤ b)) xs ys

pub add_asked : (xs ys : List ℤ) → Each1 (FitsSigned w32) xs → Each1 (FitsSigned w32) ys → AddsFit xs ys → Each2 (Asks2 (add signed) (s_int w32) (s_int w32)) (map (of_z w32) xs) (map (of_z w32) ys)
add_asked (x ∷ xs) (y ∷ ys) f g h =
    let x_is = to_z-of_z w32 x f.0 in
    let y_is = to_z-of_z w32 y g.0 in
    (rw (x_is, y_is) h.0, add_asked xs ys f.1 g.1 h.1)
add_asked _ _ f g h = tt

pub sums_are : (xs ys : List ℤ) → Each1 (FitsSigned w32) xs → Each1 (FitsSigned w32) ys → AddsFit xs ys
    → map (to_z w32) (zip2 (act2 (add signed) (s_int w32) (s_int w32) (s_int w32)) (map (of_z w32) xs) (map (of_z w32) ys)) ≡ zip2 (λ a b. a +ℤ b) xs ys
sums_are (x ∷ xs) (y ∷ ys) f g h =
    let x_is = to_z-of_z w32 x f.0 in
    let y_is = to_z-of_z w32 y g.0 in
    let sum_is = to_z-of_z w32 (x +ℤ y) h.0 in
    let rest = sums_are xs ys f.1 g.1 h.1 in
    rw (x_is, y_is, sum_is, rest) refl
sums_are _ _ f g h = refl

pub sums_fit : (xs ys : List ℤ) → AddsFit xs ys → Each1 (FitsSigned w32) (zip2 (λ a b. a +ℤ b) xs ys)
sums_fit (x ∷ xs) (y ∷ ys) h = (h.0, sums_fit xs ys h.1)
sums_fit _ _ h = tt

pub adds_fit : (xs ys : List ℤ) → length xs ≡ 4 → length ys ≡ 4 → ((k : ℕ) → k < 4 → unsigned_abs (get_or xs k (pos 0) +ℤ get_or ys k (pos 0)) < 2 ^ 31) → AddsFit xs ys
adds_fit xs ys four same small =
    let at = λ (k : ℕ) (l : k < 4). fits_signed_from_abs w32 (get_or xs k (pos 0) +ℤ get_or ys k (pos 0)) (small k l) in
    rw (four_of xs four, four_of ys same) (at 0 (omega arith), (at 1 (omega arith), (at 2 (omega arith), (at 3 (omega arith), tt))))

-- ---- four lanes in 64 bits

lane-bound : (x : ℤ) → FitsSigned w32 x → unsigned_abs x ≤ 2 ^ 31
lane-bound x fits = omega (arith, ints)

pub lanes-bound : (xs : List ℤ) → Each1 (FitsSigned w32) xs → Each1 (WithinLane (2 ^ 31)) xs
lanes-bound [] fits = tt
lanes-bound (x ∷ xs) fits = (lane-bound x fits.0, lanes-bound xs fits.1)

pub wide_bits : (xs : List ℤ) → Each1 (FitsSigned w32) xs → map (act1 (cast signed signed w64) (s_int w32) (s_int w64)) (map (of_z w32) xs) ≡ map (of_z w64) xs
wide_bits [] fits = refl
wide_bits (x ∷ xs) fits =
    let x_is = to_z-of_z w32 x fits.0 in
    let rest = wide_bits xs fits.1 in
    rw (x_is, rest) refl

-- ---- vectors that are passed on

abbrev pub passed_halves : List ℤ → List ℤ
passed_halves xs = map (to_z w16) (map (of_z w16) xs)

abbrev pub passed_four : List ℤ → List ℤ
passed_four xs = map (to_z w32) (map (of_z w32) xs)

pub halves_back : (xs : List ℤ) → EightHalves xs → passed_halves xs ≡ xs
halves_back xs e = signed_back w16 xs e.fits

pub four_back : (xs : List ℤ) → FourFit xs → passed_four xs ≡ xs
four_back xs f = signed_back w32 xs f.fits

-- a fact of each lane of two
pub each_of_two : (P : ℕ → Type 0) → P 0 → P 1 → (k : ℕ) → k < 2 → P k
each_of_two P a b zero l = a
each_of_two P a b (suc zero) l = b
each_of_two P a b (suc (suc k)) l = absurd (omega arith)

-- ---- eight numbers that were loaded

pub loaded : (halves : List ℤ) (at n : ℕ) → n ≡ 8 → at + 8 ≤ length halves → chunk 0 8 (take n (drop at halves)) ≡ chunk at 8 halves
loaded halves at n is free =
    let left = length-drop at halves in
    rw is (take_all 8 (take 8 (drop at halves)) (omega (arith, length-take-le 8 (drop at halves) (omega (arith, left, free)))))

pub loaded-fits : (halves : List ℤ) (at : ℕ) → at + 8 ≤ length halves → ((k : ℕ) → k < 8 → FitsSigned w16 (get_or halves (at + k) (pos 0))) → EightHalves (chunk at 8 halves)
loaded-fits halves at free fits =
    let eight = length-chunk at 8 halves free in
    record {
      eight = eight;
      fits = Each1-from_get_or (FitsSigned w16) (chunk at 8 halves) (pos 0) (λ k l. rw (get_or-chunk at 8 halves k (pos 0) (omega (arith, eight, l))) (fits k (omega (arith, eight, l))));
    }

-- a fact of each lane of eight
pub each_of_eight : (P : ℕ → Type 0) → P 0 → P 1 → P 2 → P 3 → P 4 → P 5 → P 6 → P 7 → (k : ℕ) → k < 8 → P k
each_of_eight P a b c d e f g h k l = elim (cases_lt k 4) [
  | inl below ↦ each_of_four P a b c d k below
  | inr above ↦
      let place : 4 + (k - 4) ≡ k = omega arith in
      rw place at (each_of_four (λ j. P (4 + j)) e f g h (k - 4) (omega arith))
]

-- ---- two vectors that were written one after the other

pub record PutTwo (new low high : List ℤ) (at : ℕ) : Type 0 where
  pub first : (j : ℕ) → j < 4 → get_or new (at + j) (pos 0) ≡ get_or low j (pos 0)
  pub second : (j : ℕ) → j < 4 → get_or new (at + 4 + j) (pos 0) ≡ get_or high j (pos 0)

pub put-two : (new old low high : List ℤ) (at : ℕ) → ((i : ℕ) → i < at + 4 → get_or new i (pos 0) ≡ get_or old i (pos 0)) → ((j : ℕ) → j < 4 → get_or old (at + j) (pos 0) ≡ get_or low j (pos 0))
    → ((j : ℕ) → j < 4 → get_or new (at + 4 + j) (pos 0) ≡ get_or high j (pos 0)) → PutTwo new low high at
put-two new old low high at before put_low put_high = record {
  first = λ j l. before (at + j) (omega (arith, l)) ∙ put_low j l;
  second = put_high;
}

pub put-first : (new low high : List ℤ) (at i j : ℕ) (z : ℤ) → PutTwo new low high at → i ≡ at + j → j < 4 → get_or low j (pos 0) ≡ z → get_or new i (pos 0) ≡ z
put-first new low high at i j z put place l is = ap (λ n. get_or new n (pos 0)) place ∙ put.first j l ∙ is

pub put-second : (new low high : List ℤ) (at i j : ℕ) (z : ℤ) → PutTwo new low high at → i ≡ at + 4 + j → j < 4 → get_or high j (pos 0) ≡ z → get_or new i (pos 0) ≡ z
put-second new low high at i j z put place l is = ap (λ n. get_or new n (pos 0)) place ∙ put.second j l ∙ is

pub lane-within : (xs : List ℤ) (k : ℕ) → k < 4 → LanesWithin (2 ^ 61) xs → WithinLane (2 ^ 61) (get_or xs k (pos 0))
lane-within xs k l small =
    Each1-get_or (WithinLane (2 ^ 61)) xs k (pos 0) (omega (arith, small.four, l)) small.small

pub four-within : (a b c d x y z w : ℤ) → a ≡ x → b ≡ y → c ≡ z → d ≡ w → WithinLane (2 ^ 61) x → WithinLane (2 ^ 61) y → WithinLane (2 ^ 61) z → WithinLane (2 ^ 61) w → LanesWithin (2 ^ 61) (a ∷ b ∷ c ∷ d ∷ [])
four-within a b c d x y z w p q r s e f g h = record {
  four = refl;
  small = (rw p e, (rw q f, (rw r g, (rw s h, tt))));
}

-- ---- carries

shifted-fits : (m : ℕ) (z : ℤ) → FitsSigned w32 z → FitsSigned w32 (shr_z z m)
shifted-fits m z fits = record { sfits = omega (arith, mag_shr z m, fits.sfits) }

shifted-floor : (m : ℕ) → 0 < m → (z : ℤ) → IsFloor m z (shr_z z m)
shifted-floor m some (pos n) =
    let cut : n / m * m + n % m ≡ n = omega arith in
    record {
      rest = n % m;
      is = ap pos (sym cut);
      below = omega arith;
    }
shifted-floor m some (negsuc n) =
    let cut : n / m * m + n % m ≡ n = omega arith in
    let below : n % m < m = omega arith in
    record {
      rest = m - 1 - n % m;
      is = omega (arith, ints, cut, below);
      below = omega (arith, some);
    }

shift-lane : (n : ℕ) → IsSplit n → (z : ℤ) → FitsSigned w32 z → to_z w32 (act2 (shr signed) (s_int w32) (s_int w32) (s_int w32) (of_z w32 z) n) ≡ shr_z z (2 ^ n)
shift-lane n (inl e) z fits = rw e (ap (λ y. to_z w32 (of_z w32 (shr_z y 8192))) (to_z-of_z w32 z fits) ∙ to_z-of_z w32 (shr_z z 8192) (shifted-fits 8192 z fits))
shift-lane n (inr e) z fits = rw e (ap (λ y. to_z w32 (of_z w32 (shr_z y 16384))) (to_z-of_z w32 z fits) ∙ to_z-of_z w32 (shr_z z 16384) (shifted-fits 16384 z fits))

pub shift_is : (n : ℕ) → IsSplit n → (xs : List ℤ) → length xs ≡ 4 → Each1 (FitsSigned w32) xs
    → map (to_z w32) (zip2 (act2 (shr signed) (s_int w32) (s_int w32) (s_int w32)) (map (of_z w32) xs) (n ∷ n ∷ n ∷ n ∷ [])) ≡ map (λ x. shr_z x (2 ^ n)) xs
shift_is n is (a ∷ b ∷ c ∷ d ∷ []) four fits =
    let first = shift-lane n is a fits.0 in
    let second = shift-lane n is b fits.1.0 in
    let third = shift-lane n is c fits.1.1.0 in
    let fourth = shift-lane n is d fits.1.1.1.0 in
    rw (first, second, third, fourth) refl
shift_is n is _ four fits = absurd (omega arith)

pub each-shifted-fits : (m : ℕ) (xs : List ℤ) → Each1 (FitsSigned w32) xs → Each1 (FitsSigned w32) (map (λ x. shr_z x m) xs)
each-shifted-fits m [] fits = tt
each-shifted-fits m (x ∷ xs) fits = (shifted-fits m x fits.0, each-shifted-fits m xs fits.1)

pub shifted-fit : (m : ℕ) (xs : List ℤ) → FourFit xs → FourFit (map (λ x. shr_z x m) xs)
shifted-fit m xs fit = record {
  four = length-map xs (λ x. shr_z x m) ∙ fit.four;
  fits = each-shifted-fits m xs fit.fits;
}

pub shifted-is-floor : (m : ℕ) → 0 < m → (xs : List ℤ) (k : ℕ) → k < length xs → IsFloor m (get_or xs k (pos 0)) (get_or (map (λ x. shr_z x m) xs) k (pos 0))
shifted-is-floor m some xs k l = rw (get_or-map (λ x. shr_z x m) xs k (pos 0) (pos 0) l) (shifted-floor m some (get_or xs k (pos 0)))

-- ---- lanes less multiples of a step

abbrev pub AreFloors : ℕ → List ℤ → List ℤ → Type 0
AreFloors m xs qs = Each2 (λ (x q : ℤ). IsFloor m x q) xs qs

-- a step is one of the two
abbrev pub IsStep : ℕ → Type 0
IsStep m = (m ≡ 8192) ⊎ (m ≡ 16384)

pub step-of : (n : ℕ) → IsSplit n → IsStep (2 ^ n)
step-of n (inl e) = inl (rw e refl)
step-of n (inr e) = inr (rw e refl)

floor-fits_8192 : (x q : ℤ) → FitsSigned w32 x → IsFloor 8192 x q → FitsSigned w32 (q *ℤ pos 8192)
floor-fits_8192 x (pos q) fits f =
    record { sfits = omega (arith, ints, f.is, f.below) }
floor-fits_8192 x (negsuc q) fits f =
    record { sfits = omega (arith, ints, f.is, f.below) }

floor-fits_16384 : (x q : ℤ) → FitsSigned w32 x → IsFloor 16384 x q → FitsSigned w32 (q *ℤ pos 16384)
floor-fits_16384 x (pos q) fits f =
    record { sfits = omega (arith, ints, f.is, f.below) }
floor-fits_16384 x (negsuc q) fits f =
    record { sfits = omega (arith, ints, f.is, f.below) }

floor-fits : (m : ℕ) → IsStep m → (x q : ℤ) → FitsSigned w32 x → IsFloor m x q → FitsSigned w32 (q *ℤ pos m)
floor-fits m (inl e) x q fits f = rw e (floor-fits_8192 x q fits (rw e at f))
floor-fits m (inr e) x q fits f = rw e (floor-fits_16384 x q fits (rw e at f))

step-maximum : (m : ℕ) → IsStep m → m ≤ 16384
step-maximum m (inl e) = omega (arith, e)
step-maximum m (inr e) = omega (arith, e)

-- a step that is made of its power, and one that is read from its bits
pub step-is : (n : ℕ) → IsSplit n → 1 * 2 ^ n % 2 ^ 32 ≡ 2 ^ n
step-is n (inl e) = rw e refl
step-is n (inr e) = rw e refl

pub wide-step-is : (n : ℕ) → IsSplit n → 1 * 2 ^ n % 2 ^ 64 ≡ 2 ^ n
wide-step-is n (inl e) = rw e refl
wide-step-is n (inr e) = rw e refl

step-value : (m : ℕ) → IsStep m → to_z w32 m ≡ pos m
step-value m step =
    to_z_pos w32 m (omega (arith, step-maximum m step))

rest-is : (m : ℕ) (x q : ℤ) (f : IsFloor m x q) → x -ℤ (q *ℤ pos m) ≡ pos f.rest
rest-is m x q f = omega (arith, ints, f.is)

rest-fits : (m : ℕ) → IsStep m → (x q : ℤ) → IsFloor m x q → FitsSigned w32 (x -ℤ (q *ℤ pos m))
rest-fits m step x q f =
    rw (rest-is m x q f) (fits_signed_from_abs w32 (pos f.rest) (omega (arith, step-maximum m step, f.below)))

pub floors-mul_asked : (m : ℕ) → IsStep m → (xs qs : List ℤ) → Each1 (FitsSigned w32) xs → Each1 (FitsSigned w32) qs → AreFloors m xs qs → length xs ≡ 4 → length qs ≡ 4
    → Each2 (Asks2 (mul signed) (s_int w32) (s_int w32)) (map (of_z w32) qs) (m ∷ m ∷ m ∷ m ∷ [])
floors-mul_asked m step (a ∷ b ∷ c ∷ d ∷ []) (p ∷ q ∷ r ∷ s ∷ []) f g h four same = (asked a p f.0 g.0 h.0, (asked b q f.1.0 g.1.0 h.1.0, (asked c r f.1.1.0 g.1.1.0 h.1.1.0, (asked d s f.1.1.1.0 g.1.1.1.0 h.1.1.1.0, tt))))
  where
    asked : (x q : ℤ) → FitsSigned w32 x → FitsSigned w32 q → IsFloor m x q → Asks2 (mul signed) (s_int w32) (s_int w32) (of_z w32 q) m
    asked x q f g h =
        let q_is = to_z-of_z w32 q g in
        rw (q_is, step-value m step) (floor-fits m step x q f h)
floors-mul_asked m step _ _ f g h four same = absurd (omega arith)

four-same : (a b c d x y z w : ℤ) → a ≡ x → b ≡ y → c ≡ z → d ≡ w → a ∷ b ∷ c ∷ d ∷ [] ≡ x ∷ y ∷ z ∷ w ∷ []
four-same a b c d x y z w p q r s = cc

-- the bits of the multiples
abbrev pub floor-products : ℕ → List ℤ → List ℕ
floor-products m qs = zip2 (act2 (mul signed) (s_int w32) (s_int w32) (s_int w32)) (map (of_z w32) qs) (m ∷ m ∷ m ∷ m ∷ [])

pub rest_asked : (m : ℕ) → IsStep m → (xs qs : List ℤ) → Each1 (FitsSigned w32) xs → Each1 (FitsSigned w32) qs → AreFloors m xs qs → length xs ≡ 4 → length qs ≡ 4
    → Each2 (Asks2 (sub signed) (s_int w32) (s_int w32)) (map (of_z w32) xs) (floor-products m qs)
rest_asked m step (a ∷ b ∷ c ∷ d ∷ []) (p ∷ q ∷ r ∷ s ∷ []) f g h four same = (asked a p f.0 g.0 h.0, (asked b q f.1.0 g.1.0 h.1.0, (asked c r f.1.1.0 g.1.1.0 h.1.1.0, (asked d s f.1.1.1.0 g.1.1.1.0 h.1.1.1.0, tt))))
  where
    asked : (x q : ℤ) → FitsSigned w32 x → FitsSigned w32 q → IsFloor m x q → Asks2 (sub signed) (s_int w32) (s_int w32) (of_z w32 x) (act2 (mul signed) (s_int w32) (s_int w32) (s_int w32) (of_z w32 q) m)
    asked x q f g h =
        let x_is = to_z-of_z w32 x f in
        let q_is = to_z-of_z w32 q g in
        let product_is = to_z-of_z w32 (q *ℤ pos m) (floor-fits m step x q f h) in
        rw (x_is, q_is, step-value m step, product_is) (rest-fits m step x q h)
rest_asked m step _ _ f g h four same = absurd (omega arith)

-- what is left of each lane
abbrev pub rest_lanes : ℕ → List ℤ → List ℤ → List ℤ
rest_lanes m xs qs = zip2 (λ x q. x -ℤ (q *ℤ pos m)) xs qs

pub rest_are : (m : ℕ) → IsStep m → (xs qs : List ℤ) → Each1 (FitsSigned w32) xs → Each1 (FitsSigned w32) qs → AreFloors m xs qs → length xs ≡ 4 → length qs ≡ 4
    → map (to_z w32) (zip2 (act2 (sub signed) (s_int w32) (s_int w32) (s_int w32)) (map (of_z w32) xs) (floor-products m qs)) ≡ rest_lanes m xs qs
rest_are m step (a ∷ b ∷ c ∷ d ∷ []) (p ∷ q ∷ r ∷ s ∷ []) f g h four same =
    let first = rest a p f.0 g.0 h.0 in
    let second = rest b q f.1.0 g.1.0 h.1.0 in
    let third = rest c r f.1.1.0 g.1.1.0 h.1.1.0 in
    let fourth = rest d s f.1.1.1.0 g.1.1.1.0 h.1.1.1.0 in
    four-same _ _ _ _ _ _ _ _ first second third fourth
  where
    rest : (x q : ℤ) → FitsSigned w32 x → FitsSigned w32 q → IsFloor m x q → to_z w32 (act2 (sub signed) (s_int w32) (s_int w32) (s_int w32) (of_z w32 x) (act2 (mul signed) (s_int w32) (s_int w32) (s_int w32) (of_z w32 q) m)) ≡ x -ℤ (q *ℤ pos m)
    rest x q f g h =
        let x_is = to_z-of_z w32 x f in
        let q_is = to_z-of_z w32 q g in
        let product_is = to_z-of_z w32 (q *ℤ pos m) (floor-fits m step x q f h) in
        let rest_is = to_z-of_z w32 (x -ℤ (q *ℤ pos m)) (rest-fits m step x q h) in
        rw (x_is, q_is, step-value m step, product_is, rest_is) refl
rest_are m step _ _ f g h four same = absurd (omega arith)

pub floors : (m : ℕ) (xs qs : List ℤ) → length xs ≡ 4 → length qs ≡ 4 → ((k : ℕ) → k < 4 → IsFloor m (get_or xs k (pos 0)) (get_or qs k (pos 0))) → AreFloors m xs qs
floors m xs qs four same is = rw (four_of xs four, four_of qs same) (is 0 (omega arith), (is 1 (omega arith), (is 2 (omega arith), (is 3 (omega arith), tt))))

each-rest-fits : (m : ℕ) → IsStep m → (xs qs : List ℤ) → AreFloors m xs qs → Each1 (FitsSigned w32) (rest_lanes m xs qs)
each-rest-fits m step (x ∷ xs) (q ∷ qs) h = (rest-fits m step x q h.0, each-rest-fits m step xs qs h.1)
each-rest-fits m step _ _ h = tt

pub rest-fit : (m : ℕ) → IsStep m → (xs qs : List ℤ) → AreFloors m xs qs → length xs ≡ 4 → length qs ≡ 4 → FourFit (rest_lanes m xs qs)
rest-fit m step xs qs h four same = record {
  four = length-zip2 (λ x q. x -ℤ (q *ℤ pos m)) xs qs (omega (arith, four, same)) ∙ four;
  fits = each-rest-fits m step xs qs h;
}

pub rest-at : (m : ℕ) (xs qs : List ℤ) (k : ℕ) → length xs ≡ 4 → length qs ≡ 4 → k < 4 → get_or (rest_lanes m xs qs) k (pos 0) ≡ get_or xs k (pos 0) -ℤ (get_or qs k (pos 0) *ℤ pos m)
rest-at m xs qs k four same l = get_or-zip2 (λ x q. x -ℤ (q *ℤ pos m)) xs qs k (pos 0) (pos 0) (pos 0) (omega (arith, four, l)) (omega (arith, same, l))

pub carry-bound : (m : ℕ) → IsStep m → (h l q : ℤ) → IsFloor m l q → unsigned_abs (joined_halves m h l) ≤ 2 ^ 31 * (m - 1) → unsigned_abs (h +ℤ q) < 2 ^ 31
carry-bound m step h l q f small =
    let size = unsigned_abs-mul (h +ℤ q) (pos m) in
    let sum = add-mul h q (pos m) in
    let positive : 0 < m = elim step [ inl e ↦ omega (arith, e) | inr e ↦ omega (arith, e) ] in
    let split : (h +ℤ q) *ℤ pos m +ℤ pos f.rest ≡ joined_halves m h l = omega (arith, ints, f.is, sum) in
    let below : unsigned_abs (h +ℤ q) * m < 2 ^ 31 * m = omega (arith, ints, split, size, small, f.below, positive, step-maximum m step) in
    lt_of_mul-lt-mul_right m below

pub carry-value : (m : ℕ) (h l q : ℤ) → joined_halves m (h +ℤ q) (l -ℤ (q *ℤ pos m)) ≡ joined_halves m h l
carry-value m h l q = omega (arith, ints, add-mul h q (pos m))

pub rest-below : (m : ℕ) → IsStep m → (l q : ℤ) → IsFloor m l q → unsigned_abs (l -ℤ (q *ℤ pos m)) ≤ 2 ^ 14
rest-below m step l q f =
    rw (rest-is m l q f) (omega (arith, step-maximum m step, f.below))

-- ---- the parts of a weight

-- what is given of a weight and a step
pub record Weighed (m half : ℕ) (z : ℤ) : Type 0 where
  twice : m ≡ 2 * half
  maximum : m ≤ 16384
  some : 0 < half
  fits : FitsSigned w32 z
  bound : unsigned_abs z ≤ 32767 * m

abbrev part-above : ℕ → ℕ → ℤ → ℤ
part-above m half z = shr_z (z +ℤ pos half) m

half-sum-fits : (m half : ℕ) (z : ℤ) → Weighed m half z → FitsSigned w32 (z +ℤ pos half)
half-sum-fits m half z w =
    fits_signed_from_abs w32 (z +ℤ pos half) (omega (arith, ints, w.maximum, w.twice, w.bound))

above-is : (m half : ℕ) (z : ℤ) → Weighed m half z → to_z w32 (of_z w32 (shr_z (to_z w32 (of_z w32 (to_z w32 (of_z w32 z) +ℤ pos half))) m)) ≡ part-above m half z
above-is m half z w =
    let fits = half-sum-fits m half z w in
    rw (to_z-of_z w32 z w.fits, to_z-of_z w32 (z +ℤ pos half) fits) (to_z-of_z w32 (part-above m half z) (shifted-fits m (z +ℤ pos half) fits))

-- the low part, which the multiple leaves
below-bound : (m half : ℕ) (z : ℤ) → Weighed m half z → unsigned_abs (z -ℤ (part-above m half z *ℤ pos m)) ≤ 8192
below-bound m half z w =
    let f = shifted-floor m (omega (arith, w.twice, w.some)) (z +ℤ pos half) in
    omega (arith, ints, f.is, f.below, w.maximum, w.twice)

product-fits : (m half : ℕ) (z : ℤ) → Weighed m half z → FitsSigned w32 (part-above m half z *ℤ pos m)
product-fits m half z w =
    fits_signed_from_abs w32 (part-above m half z *ℤ pos m) (omega (arith, ints, w.maximum, w.bound, below-bound m half z w))

below-fits : (m half : ℕ) (z : ℤ) → Weighed m half z → FitsSigned w32 (z -ℤ (part-above m half z *ℤ pos m))
below-fits m half z w =
    fits_signed_from_abs w32 (z -ℤ (part-above m half z *ℤ pos m)) (omega (arith, below-bound m half z w))

-- the difference as the code makes it, of the high part as the code makes it
difference-is : (m half : ℕ) (z : ℤ) → Weighed m half z
    → to_z w32 (of_z w32 z) -ℤ to_z w32 (of_z w32 (to_z w32 (of_z w32 (shr_z (to_z w32 (of_z w32 (to_z w32 (of_z w32 z) +ℤ pos half))) m)) *ℤ pos m)) ≡ z -ℤ (part-above m half z *ℤ pos m)
difference-is m half z w = rw (above-is m half z w, to_z-of_z w32 z w.fits, to_z-of_z w32 (part-above m half z *ℤ pos m) (product-fits m half z w)) refl

pub part-fits : (m half : ℕ) (z : ℤ) → Weighed m half z
    → FitsSigned w32 (to_z w32 (of_z w32 z) -ℤ to_z w32 (of_z w32 (to_z w32 (of_z w32 (shr_z (to_z w32 (of_z w32 (to_z w32 (of_z w32 z) +ℤ pos half))) m)) *ℤ pos m)))
part-fits m half z w = rw (difference-is m half z w) (below-fits m half z w)

pub part-low : (m half : ℕ) (z : ℤ) → Weighed m half z
    → unsigned_abs (to_z w32 (of_z w32 (to_z w32 (of_z w32 z) -ℤ to_z w32 (of_z w32 (to_z w32 (of_z w32 (shr_z (to_z w32 (of_z w32 (to_z w32 (of_z w32 z) +ℤ pos half))) m)) *ℤ pos m))))) ≤ 8192
part-low m half z w = rw (difference-is m half z w, to_z-of_z w32 (z -ℤ (part-above m half z *ℤ pos m)) (below-fits m half z w)) (below-bound m half z w)

pub part-joined : (m half : ℕ) (z : ℤ) → Weighed m half z
    → z ≡ joined_halves m (to_z w32 (of_z w32 (shr_z (to_z w32 (of_z w32 (to_z w32 (of_z w32 z) +ℤ pos half))) m))) (to_z w32 (of_z w32 (to_z w32 (of_z w32 z) -ℤ to_z w32 (of_z w32 (to_z w32 (of_z w32 (shr_z (to_z w32 (of_z w32 (to_z w32 (of_z w32 z) +ℤ pos half))) m)) *ℤ pos m)))))
part-joined m half z w =
    rw (difference-is m half z w, to_z-of_z w32 (z -ℤ (part-above m half z *ℤ pos m)) (below-fits m half z w), above-is m half z w) (omega (arith, ints))

pub weighed_8192 : (z : ℤ) → FitsSigned w32 z → unsigned_abs z ≤ 32767 * 8192 → Weighed 8192 4096 z
weighed_8192 z fits bound = record { twice = refl; maximum = omega arith; some = omega arith; fits = fits; bound = bound }

pub weighed_16384 : (z : ℤ) → FitsSigned w32 z → unsigned_abs z ≤ 32767 * 16384 → Weighed 16384 8192 z
weighed_16384 z fits bound = record { twice = refl; maximum = omega arith; some = omega arith; fits = fits; bound = bound }

-- ---- high and low lanes in 64 bits

pub joined-within : (m : ℕ) (x y : ℤ) → unsigned_abs (joined_halves m x y) ≤ 2 ^ 45 → unsigned_abs (joined_halves m x y *ℤ pos 65536) ≤ 2 ^ 61
joined-within m x y small = omega (arith, unsigned_abs-mul (joined_halves m x y) (pos 65536), small)

pub wide_asked : (xs : List ℤ) → Each1 (FitsSigned w32) xs → Each1 (Asks1 (cast signed signed w64) (s_int w32)) (map (of_z w32) xs)
wide_asked [] fits = tt
wide_asked (x ∷ xs) fits =
    let x_is = to_z-of_z w32 x fits.0 in
    (rw x_is (fits_signed_from_abs w64 x (omega (arith, lane-bound x fits.0))), wide_asked xs fits.1)

pub joined-lane : (m : ℕ) (high low : List ℤ) (k : ℕ) → length high ≡ 4 → length low ≡ 4 → k < 4
    → get_or (zip2 (λ a b. a +ℤ b) low (zip2 (λ a b. a *ℤ b) high (replicate 4 (pos m)))) k (pos 0) ≡ joined_halves m (get_or high k (pos 0)) (get_or low k (pos 0))
joined-lane m high low k four same l =
    let products : List ℤ = zip2 (λ a b. a *ℤ b) high (replicate 4 (pos m)) in
    let long = length-zip2 (λ a b. a *ℤ b) high (replicate 4 (pos m)) four in
    let product = get_or-zip2 (λ a b. a *ℤ b) high (replicate 4 (pos m)) k (pos 0) (pos 0) (pos 0) (omega (arith, four, l)) l ∙ ap (λ y. get_or high k (pos 0) *ℤ y) (get_or-replicate 4 k (pos m) (pos 0) l) in
    let sum = get_or-zip2 (λ a b. a +ℤ b) low products k (pos 0) (pos 0) (pos 0) (omega (arith, same, l)) (omega (arith, long, four, l)) in
    omega (arith, ints, sum, product)
