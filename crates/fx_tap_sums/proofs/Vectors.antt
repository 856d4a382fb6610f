-- Vectors of four numbers, lane by lane.
use Rattle.std.proofs.Common.{◌≡◌, ◌+◌, ◌-◌, ◌*◌, ◌%◌, ◌^◌, ◌<◌, ◌≤◌, ◌∙◌, refl, ap, cond, pos, neg_ℤ, ◌*ℤ◌, ℕ, Bool, true, false, nat_lt, List, [], ◌∷◌, length, get_or, arith, to_z, w64, ◌-ℤ◌, map, inl, inr}
use Rattle.std.specs.Simd.Lanes.{Each2, zip2, sel_l, top}
use Rattle.std.proofs.lemmas.Bool.{cases_lt}
use Rattle.std.proofs.lemmas.Int.{ints, fits_signed_from_abs, to_z_pos}
use Rattle.std.proofs.lemmas.Bool.Decides.{nat_tests}
use Rattle.std.proofs.lemmas.Nat.{mul-le}
use Rattle.fx_tap_sums.specs.Residues.{AreFour, Same}
use Rattle.fx_tap_sums.proofs.Residues.{same_refl, same_less}
use Rattle.fx_tap_sums.proofs.PairLanes.{each_of_four}
use Rattle.fx_tap_sums.proofs.SmallSums.{held-in-64}
use borrow.Rule.Simd.Lanes.{act1, act2, Asks2}
use borrow.Table.Row.{s_int}
use mir.Syntax.{cast, signed, sub, unsigned}

-- what holds of four numbers that are written out holds of each list of four
pub by_four : (P : List ℕ → Type 0) → ((a b c d : ℕ) → P (a ∷ b ∷ c ∷ d ∷ [])) → (xs : List ℕ) → length xs ≡ 4 → P xs
by_four P all (a ∷ b ∷ c ∷ d ∷ []) l = all a b c d
by_four P all _ l = absurd (omega arith)

-- what an operation asks of each lane of two
pub both_lanes : (P : ℕ → ℕ → Type 0) (xs ys : List ℕ) → length xs ≡ 4 → length ys ≡ 4 → ((k : ℕ) → k < 4 → P (get_or xs k 0) (get_or ys k 0)) → Each2 P xs ys
both_lanes P xs ys l m all =
    by_four (λ xs. ((k : ℕ) → k < 4 → P (get_or xs k 0) (get_or ys k 0)) → Each2 P xs ys)
    (λ a b c d. by_four (λ ys. ((k : ℕ) → k < 4 → P (get_or (a ∷ b ∷ c ∷ d ∷ []) k 0) (get_or ys k 0)) → Each2 P (a ∷ b ∷ c ∷ d ∷ []) ys) (λ e f g h all. (all 0 (omega arith), (all 1 (omega arith), (all 2 (omega arith), (all 3 (omega arith), tt))))) ys m) xs l all

-- the lanes that it gives
pub lane_of : (f : ℕ → ℕ) (xs : List ℕ) (k : ℕ) → length xs ≡ 4 → k < 4 → get_or (map f xs) k 0 ≡ f (get_or xs k 0)
lane_of f xs k l h = by_four (λ xs. (k : ℕ) → k < 4 → get_or (map f xs) k 0 ≡ f (get_or xs k 0)) (λ a b c d. each_of_four (λ k. get_or (map f (a ∷ b ∷ c ∷ d ∷ [])) k 0 ≡ f (get_or (a ∷ b ∷ c ∷ d ∷ []) k 0)) refl refl refl refl) xs l k h

pub lane_of_both : (f : ℕ → ℕ → ℕ) (xs ys : List ℕ) (k : ℕ) → length xs ≡ 4 → length ys ≡ 4 → k < 4 → get_or (zip2 f xs ys) k 0 ≡ f (get_or xs k 0) (get_or ys k 0)
lane_of_both f xs ys k l m h =
    by_four (λ xs. (k : ℕ) → k < 4 → get_or (zip2 f xs ys) k 0 ≡ f (get_or xs k 0) (get_or ys k 0))
    (λ a b c d. by_four (λ ys. (k : ℕ) → k < 4 → get_or (zip2 f (a ∷ b ∷ c ∷ d ∷ []) ys) k 0 ≡ f (get_or (a ∷ b ∷ c ∷ d ∷ []) k 0) (get_or ys k 0))
    (λ e g i j. each_of_four (λ k. get_or (zip2 f (a ∷ b ∷ c ∷ d ∷ []) (e ∷ g ∷ i ∷ j ∷ [])) k 0 ≡ f (get_or (a ∷ b ∷ c ∷ d ∷ []) k 0) (get_or (e ∷ g ∷ i ∷ j ∷ []) k 0)) refl refl refl refl) ys m) xs l k h

pub four_of_both : (f : ℕ → ℕ → ℕ) (xs ys : List ℕ) → length xs ≡ 4 → length ys ≡ 4 → length (zip2 f xs ys) ≡ 4
four_of_both f xs ys l m = by_four (λ xs. length (zip2 f xs ys) ≡ 4) (λ a b c d. by_four (λ ys. length (zip2 f (a ∷ b ∷ c ∷ d ∷ []) ys) ≡ 4) (λ e g i j. refl) ys m) xs l

-- one number in each lane
pub splat_at : (n k : ℕ) → k < 4 → get_or (n ∷ n ∷ n ∷ n ∷ []) k 0 ≡ n
splat_at n k h = each_of_four (λ k. get_or (n ∷ n ∷ n ∷ n ∷ []) k 0 ≡ n) refl refl refl refl k h

-- two numbers of 32 bits in 64
pub short_product : (a b : ℕ) → a < 2 ^ 32 → b < 2 ^ 32 → a * b < 2 ^ 64
short_product a b first second = let whole = mul-le a b (2 ^ 32 - 1) (2 ^ 32 - 1) (omega arith) (omega arith) in omega arith

-- the minimum of numbers and of their differences to another one, modulo 2^32
abbrev pub wrapped : List ℕ → ℕ → List ℕ
wrapped xs n = zip2 (λ a b. (a + (2 ^ 32 - b)) % 2 ^ 32) xs (n ∷ n ∷ n ∷ n ∷ [])

abbrev pub minimum : List ℕ → List ℕ → List ℕ
minimum xs ys = sel_l (map (top 31) (zip2 (λ a b. cond (nat_lt a b) (2 ^ 32 - 1) 0) xs ys)) xs ys

minimum_lane : (a b : ℕ) (t : Bool) → nat_lt a b ≡ t → cond (top 31 (cond t (2 ^ 32 - 1) 0)) a b ≡ cond t a b
minimum_lane a b true e = refl
minimum_lane a b false e = refl

chosen : (a b : ℕ) → cond (top 31 (cond (nat_lt a b) (2 ^ 32 - 1) 0)) a b ≡ cond (nat_lt a b) a b
chosen a b = minimum_lane a b (nat_lt a b) refl

below_lane : (a n : ℕ) (t : Bool) → nat_lt a ((a + (2 ^ 32 - n)) % 2 ^ 32) ≡ t → 0 < n → a < n → n < 2 ^ 32 → cond t a ((a + (2 ^ 32 - n)) % 2 ^ 32) ≡ a
below_lane a n true e some less fits = refl
below_lane a n false e some less fits = absurd (grind (arith, nat_tests))

above_lane : (a n : ℕ) (t : Bool) → nat_lt a ((a + (2 ^ 32 - n)) % 2 ^ 32) ≡ t → 0 < n → n ≤ a → a < 2 ^ 32 → cond t a ((a + (2 ^ 32 - n)) % 2 ^ 32) ≡ a - n
above_lane a n true e some less fits = absurd (grind (arith, nat_tests))
above_lane a n false e some less fits = omega arith

one_below : (a n : ℕ) → 0 < n → a < n → n < 2 ^ 32 → cond (top 31 (cond (nat_lt a ((a + (2 ^ 32 - n)) % 2 ^ 32)) (2 ^ 32 - 1) 0)) a ((a + (2 ^ 32 - n)) % 2 ^ 32) ≡ a
one_below a n some less fits = chosen a _ ∙ below_lane a n (nat_lt a ((a + (2 ^ 32 - n)) % 2 ^ 32)) refl some less fits

one_above : (a n : ℕ) → 0 < n → n ≤ a → a < 2 ^ 32 → cond (top 31 (cond (nat_lt a ((a + (2 ^ 32 - n)) % 2 ^ 32)) (2 ^ 32 - 1) 0)) a ((a + (2 ^ 32 - n)) % 2 ^ 32) ≡ a - n
one_above a n some less fits = chosen a _ ∙ above_lane a n (nat_lt a ((a + (2 ^ 32 - n)) % 2 ^ 32)) refl some less fits

pub minimum_below : (xs : List ℕ) (n : ℕ) → length xs ≡ 4 → n < 2 ^ 32 → 0 < n → (k : ℕ) → k < 4 → get_or xs k 0 < n → get_or (minimum xs (wrapped xs n)) k 0 ≡ get_or xs k 0
minimum_below xs n l fits some =
    by_four (λ xs. (k : ℕ) → k < 4 → get_or xs k 0 < n → get_or (minimum xs (wrapped xs n)) k 0 ≡ get_or xs k 0)
    (λ a b c d. each_of_four (λ k. get_or (a ∷ b ∷ c ∷ d ∷ []) k 0 < n → get_or (minimum (a ∷ b ∷ c ∷ d ∷ []) (wrapped (a ∷ b ∷ c ∷ d ∷ []) n)) k 0 ≡ get_or (a ∷ b ∷ c ∷ d ∷ []) k 0)
    (λ h. one_below a n some h fits) (λ h. one_below b n some h fits) (λ h. one_below c n some h fits) (λ h. one_below d n some h fits)) xs l

pub minimum_above : (xs : List ℕ) (n : ℕ) → length xs ≡ 4 → ((k : ℕ) → k < 4 → get_or xs k 0 < 2 ^ 32) → 0 < n → (k : ℕ) → k < 4 → n ≤ get_or xs k 0 → get_or (minimum xs (wrapped xs n)) k 0 ≡ get_or xs k 0 - n
minimum_above xs n l fits some k h le =
    by_four (λ xs. (k : ℕ) → k < 4 → get_or xs k 0 < 2 ^ 32 → n ≤ get_or xs k 0 → get_or (minimum xs (wrapped xs n)) k 0 ≡ get_or xs k 0 - n)
    (λ a b c d. each_of_four (λ k. get_or (a ∷ b ∷ c ∷ d ∷ []) k 0 < 2 ^ 32 → n ≤ get_or (a ∷ b ∷ c ∷ d ∷ []) k 0 → get_or (minimum (a ∷ b ∷ c ∷ d ∷ []) (wrapped (a ∷ b ∷ c ∷ d ∷ []) n)) k 0 ≡ get_or (a ∷ b ∷ c ∷ d ∷ []) k 0 - n)
    (λ f h. one_above a n some h f) (λ f h. one_above b n some h f) (λ f h. one_above c n some h f) (λ f h. one_above d n some h f)) xs l k h (fits k h) le

-- ---- remainders

pub lane_reduced : (p : ℕ) (xs rs : List ℕ) → AreFour (2 * p) xs → length rs ≡ 4 → ((k : ℕ) → k < 4 → get_or xs k 0 < p → get_or rs k 0 ≡ get_or xs k 0) → ((k : ℕ) → k < 4 → p ≤ get_or xs k 0 → get_or rs k 0 ≡ get_or xs k 0 - p) → AreFour p rs
lane_reduced p xs rs are four below above = record {
  four = four;
  less = λ k l. elim (cases_lt (get_or xs k 0) p) [
    | inl less ↦ rw (below k l less) less
    | inr more ↦ let bound = are.less k l in rw (above k l more) (omega arith)
  ];
}

pub lane_same : (p t n : ℕ) (xs rs : List ℕ) → t * p ≡ n → ((k : ℕ) → k < 4 → get_or xs k 0 < n → get_or rs k 0 ≡ get_or xs k 0) → ((k : ℕ) → k < 4 → n ≤ get_or xs k 0 → get_or rs k 0 ≡ get_or xs k 0 - n) → (k : ℕ) → k < 4 → Same (pos p) (pos (get_or rs k 0)) (pos (get_or xs k 0))
lane_same p t n xs rs whole below above k l = elim (cases_lt (get_or xs k 0) n) [
  | inl less ↦ rw (below k l less) (same_refl (pos p) (pos (get_or xs k 0)))
  | inr more ↦ rw (above k l more) (same_less p (get_or xs k 0 - n) (get_or xs k 0) t (omega arith))
]

pub opposite_same : (p t b : ℕ) → b ≤ t * p → Same (pos p) (pos (t * p - b)) (neg_ℤ (pos b))
opposite_same p t b less =
    let whole : pos p *ℤ pos t ≡ pos (t * p) = ap pos (omega arith) in
    (pos t, omega (arith, ints))

-- a number less another one, with a sign
one_asked : (a n : ℕ) → a < 2 ^ 63 → n < 2 ^ 63 → Asks2 (sub signed) (s_int w64) (s_int w64) (act1 (cast unsigned signed w64) (s_int w64) (s_int w64) a) n
one_asked a n a_less n_less =
    let x = to_z_pos w64 a a_less in
    let y = to_z_pos w64 n n_less in
    rw (x, y) (fits_signed_from_abs w64 (pos a -ℤ pos n) (omega (arith, ints)))

one_less : (a n : ℕ) → a < 2 ^ 63 → n < 2 ^ 63 → to_z w64 (act2 (sub signed) (s_int w64) (s_int w64) (s_int w64) (act1 (cast unsigned signed w64) (s_int w64) (s_int w64) a) n) ≡ pos a -ℤ pos n
one_less a n a_less n_less =
    let x = to_z_pos w64 a a_less in
    let y = to_z_pos w64 n n_less in
    rw (x, y) (held-in-64 (pos a -ℤ pos n) (omega (arith, ints)))

pub less_asked : (n : ℕ) (xs : List ℕ) → length xs ≡ 4 → ((k : ℕ) → k < 4 → get_or xs k 0 < 2 ^ 63) → n < 2 ^ 63
    → Each2 (Asks2 (sub signed) (s_int w64) (s_int w64)) (map (act1 (cast unsigned signed w64) (s_int w64) (s_int w64)) xs) (n ∷ n ∷ n ∷ n ∷ [])
less_asked n xs l less fits =
    by_four (λ xs. ((k : ℕ) → k < 4 → get_or xs k 0 < 2 ^ 63) → Each2 (Asks2 (sub signed) (s_int w64) (s_int w64)) (map (act1 (cast unsigned signed w64) (s_int w64) (s_int w64)) xs) (n ∷ n ∷ n ∷ n ∷ []))
    (λ a b c d less. (one_asked a n (less 0 (omega arith)) fits, (one_asked b n (less 1 (omega arith)) fits, (one_asked c n (less 2 (omega arith)) fits, (one_asked d n (less 3 (omega arith)) fits, tt))))) xs l less

pub less_lane : (n : ℕ) (xs : List ℕ) → length xs ≡ 4 → ((k : ℕ) → k < 4 → get_or xs k 0 < 2 ^ 63) → n < 2 ^ 63 → (k : ℕ) → k < 4
    → get_or (map (to_z w64) (zip2 (act2 (sub signed) (s_int w64) (s_int w64) (s_int w64)) (map (act1 (cast unsigned signed w64) (s_int w64) (s_int w64)) xs) (n ∷ n ∷ n ∷ n ∷ []))) k (pos 0) ≡ pos (get_or xs k 0) -ℤ pos n
less_lane n xs l less fits k h =
    by_four (λ xs. (k : ℕ) → k < 4 → get_or xs k 0 < 2 ^ 63 → get_or (map (to_z w64) (zip2 (act2 (sub signed) (s_int w64) (s_int w64) (s_int w64)) (map (act1 (cast unsigned signed w64) (s_int w64) (s_int w64)) xs) (n ∷ n ∷ n ∷ n ∷ []))) k (pos 0) ≡ pos (get_or xs k 0) -ℤ pos n)
    (λ a b c d. each_of_four (λ k. get_or (a ∷ b ∷ c ∷ d ∷ []) k 0 < 2 ^ 63 → get_or (map (to_z w64) (zip2 (act2 (sub signed) (s_int w64) (s_int w64) (s_int w64)) (map (act1 (cast unsigned signed w64) (s_int w64) (s_int w64)) (a ∷ b ∷ c ∷ d ∷ [])) (n ∷ n ∷ n ∷ n ∷ []))) k (pos 0) ≡ pos (get_or (a ∷ b ∷ c ∷ d ∷ []) k 0) -ℤ pos n)
    (λ f. one_less a n f fits) (λ f. one_less b n f fits) (λ f. one_less c n f fits) (λ f. one_less d n f fits)) xs l k h (less k h)
