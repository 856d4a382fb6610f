-- Sums of products over a list in thirds, by a product modulo x^2m - 1 and another modulo x^m - r, where the square of r is -1.
use Rattle.std.proofs.Common.{◌≡◌, ◌+◌, ◌-◌, ◌*◌, ◌<◌, ◌≤◌, ◌∙◌, sym, refl, ℕ, zero, suc, arith, ℤ, pos, neg_ℤ, ◌*ℤ◌, ◌+ℤ◌, List, [], ◌∷◌, ◌++◌, length, drop, map, replicate}
use Rattle.std.proofs.lemmas.Int.{ints}
use Rattle.std.proofs.lemmas.List.{length-drop, length-map, get_or-drop, drop_all, drop-map}
use borrow.Author.Differences.{product_is}
use Rattle.fx_frame_base.proofs.ListPlaces.{zeros-sample}
use Rattle.fx_tap_sums.specs.Products.{sum_of_products}
use Rattle.fx_tap_sums.specs.Residues.{Same}
use Rattle.fx_tap_sums.specs.Transform.{combined, cyclic}
use Rattle.fx_tap_sums.specs.Prepared.{padded_weights}
use Rattle.fx_tap_sums.proofs.Numbers.{add-mul, mul-add, mul_assoc, mul_swap, neg-mul}
use Rattle.fx_tap_sums.proofs.Residues.{same_add, same_is, same_mul, same_negated, same_on, same_times}
use Rattle.fx_tap_sums.proofs.Cyclic.{append_right, beyond_end, combined_left, drop-combined, drop_back, length-combined, nothing, round, round_both}
use Rattle.fx_tap_sums.proofs.CyclicSums.{length-padded, times, unscaled_is, zeros}

-- ---- what is left of padded, scaled weights

-- zeros after weights change no sum
pub pads : (xs hs : List ℤ) (z k : ℕ) → sum_of_products xs (drop k (hs ++ replicate z (pos 0))) ≡ sum_of_products xs (drop k hs)
pads xs hs z zero = omega (arith, ints, append_right xs hs (replicate z (pos 0)), zeros (drop (length hs) xs) (replicate z (pos 0)) (zeros-sample z))
pads xs [] z (suc k) = zeros xs (drop (suc k) (replicate z (pos 0))) (λ j. get_or-drop (suc k) (replicate z (pos 0)) j (pos 0) ∙ zeros-sample z (suc k + j)) ∙ sym (nothing xs)
pads xs (h ∷ hs) z (suc k) = pads xs hs z k

-- the number at a place of a product with weights that were scaled, and the scale taken away
pub unscaled : (n i : ℕ) (p factor v scale s : ℤ) (a ws : List ℤ) → length ws ≤ n → Same p (scale *ℤ factor) (pos 1) →
    Same p v (factor *ℤ cyclic s a (padded_weights n (map (λ c. scale *ℤ c) ws)) i) →
    Same p v (sum_of_products a (drop (n - 1 - i) ws) +ℤ (s *ℤ round a ws i))
unscaled n i p factor v scale s a ws bound scaled is =
    let hs : List ℤ = map (λ c. scale *ℤ c) ws in
    let h_long : length hs ≡ length ws = length-map ws (λ c. scale *ℤ c) in
    let long : length (padded_weights n hs) ≡ n = length-padded n hs (omega arith) in
    let kept : ℤ = sum_of_products a (drop (n - 1 - i) ws) in
    let over : ℤ = round a ws i in
    let total : ℤ = kept +ℤ (s *ℤ over) in
    let stay : sum_of_products a (drop (length (padded_weights n hs) - 1 - i) (padded_weights n hs)) ≡ scale *ℤ kept = rw long (pads a hs (n - length hs) (n - 1 - i) ∙ rw (drop-map (λ c. scale *ℤ c) (n - 1 - i) ws) (times scale a (drop (n - 1 - i) ws))) in
    let come : sum_of_products (drop (i + 1) a) (padded_weights n hs) ≡ scale *ℤ over = pads (drop (i + 1) a) hs (n - length hs) 0 ∙ times scale (drop (i + 1) a) ws in
    let turned = mul_swap s scale over in
    let apart = mul-add scale kept (s *ℤ over) in
    let whole : cyclic s a (padded_weights n hs) i ≡ scale *ℤ total = rw (stay, come) (omega (arith, ints)) in
    unscaled_is p factor v scale _ total whole scaled is

-- ---- sums over lists in parts of m numbers

-- weights that begin in a part reach no further than the next one
pub over_next : (m i : ℕ) (x y z ws : List ℤ) → length x ≡ m → length y ≡ m → length ws ≤ m → i < m →
    sum_of_products (drop (i + 1) (x ++ (y ++ z))) ws ≡ round x ws i +ℤ sum_of_products y (drop (m - 1 - i) ws)
over_next m i x y z ws x_long y_long bound lt =
    let short = length-drop (m - 1 - i) ws in
    let next = beyond_end y z (drop (m - 1 - i) ws) (omega arith) in
    round_both m i x (y ++ z) ws x_long lt ∙ rw next refl

pub over_last : (m i : ℕ) (x y z ws : List ℤ) → length x ≡ m → length y ≡ m → i < m →
    sum_of_products (drop (m + i + 1) (x ++ (y ++ z))) ws ≡ round y ws i +ℤ sum_of_products z (drop (m - 1 - i) ws)
over_last m i x y z ws x_long y_long lt =
    let far : m + i + 1 ≡ length x + (i + 1) = omega arith in
    let beyond : drop (m + i + 1) (x ++ (y ++ z)) ≡ drop (i + 1) (y ++ z) = rw far (drop_back x (y ++ z) (i + 1)) in
    rw beyond (round_both m i y z ws y_long lt)

-- a product of two parts modulo x^2m - 1
front_part : (m i : ℕ) (x y ws : List ℤ) → length x ≡ m → length y ≡ m → length ws ≤ m → i < m →
    sum_of_products (x ++ y) (drop (2 * m - 1 - i) ws) +ℤ (pos 1 *ℤ round (x ++ y) ws i) ≡ round x ws i +ℤ sum_of_products y (drop (m - 1 - i) ws)
front_part m i x y ws x_long y_long bound lt =
    let none : drop (2 * m - 1 - i) ws ≡ [] = drop_all (2 * m - 1 - i) ws (omega arith) in
    let nought = nothing (x ++ y) in
    let over = round_both m i x y ws x_long lt in
    let once = product_is (pos 1) (round (x ++ y) ws i) in
    rw none (omega (arith, ints))

back_part : (m i : ℕ) (x y ws : List ℤ) → length x ≡ m → length y ≡ m → length ws ≤ m → i < m →
    sum_of_products (x ++ y) (drop (2 * m - 1 - (m + i)) ws) +ℤ (pos 1 *ℤ round (x ++ y) ws (m + i)) ≡ sum_of_products x (drop (m - 1 - i) ws) +ℤ round y ws i
back_part m i x y ws x_long y_long bound lt =
    let place : 2 * m - 1 - (m + i) ≡ m - 1 - i = omega arith in
    let short = length-drop (m - 1 - i) ws in
    let front = beyond_end x y (drop (m - 1 - i) ws) (omega arith) in
    let far : m + i + 1 ≡ length x + (i + 1) = omega arith in
    let beyond : drop (m + i + 1) (x ++ y) ≡ drop (i + 1) y = rw far (drop_back x y (i + 1)) in
    let once = product_is (pos 1) (round y ws i) in
    rw (place, front, beyond) (omega (arith, ints))

-- ---- numbers

-- the parts of a difference that the passes before and after the products take away
taken_away : (p r half turned low high : ℤ) → Same p turned (r *ℤ half) → Same p (r *ℤ r) (neg_ℤ (pos 1)) → Same p (half +ℤ half) (pos 1) →
    Same p (((half *ℤ low) +ℤ (turned *ℤ high)) +ℤ neg_ℤ (r *ℤ ((half *ℤ high) +ℤ (r *ℤ (half *ℤ low))))) low
taken_away p r half turned low high is square twice =
    let hl : ℤ = half *ℤ low in
    let hh : ℤ = half *ℤ high in
    let first : Same p (turned *ℤ high) (r *ℤ hh) = same_on p (turned *ℤ high) ((r *ℤ half) *ℤ high) (r *ℤ hh) (same_times p high turned (r *ℤ half) is) (same_is p ((r *ℤ half) *ℤ high) (r *ℤ hh) (sym (mul_assoc r half high))) in
    let one = neg-mul (pos 1) hl in
    let once = product_is (pos 1) hl in
    let minus : neg_ℤ (pos 1) *ℤ hl ≡ neg_ℤ hl = omega (arith, ints) in
    let second : Same p (r *ℤ (r *ℤ hl)) (neg_ℤ hl) = same_on p (r *ℤ (r *ℤ hl)) ((r *ℤ r) *ℤ hl) (neg_ℤ hl) (same_is p (r *ℤ (r *ℤ hl)) ((r *ℤ r) *ℤ hl) (mul_assoc r r hl))
    (same_on p ((r *ℤ r) *ℤ hl) (neg_ℤ (pos 1) *ℤ hl) (neg_ℤ hl) (same_times p hl (r *ℤ r) (neg_ℤ (pos 1)) square) (same_is p (neg_ℤ (pos 1) *ℤ hl) (neg_ℤ hl) minus)) in
    let both = add-mul half half low in
    let unit = product_is (pos 1) low in
    let whole : pos 1 *ℤ low ≡ low = omega (arith, ints) in
    let third : Same p (hl +ℤ hl) low = same_on p (hl +ℤ hl) ((half +ℤ half) *ℤ low) low (same_is p (hl +ℤ hl) ((half +ℤ half) *ℤ low) (sym both))
    (same_on p ((half +ℤ half) *ℤ low) (pos 1 *ℤ low) low (same_times p low (half +ℤ half) (pos 1) twice) (same_is p (pos 1 *ℤ low) low whole)) in
    let apart = mul-add r hh (r *ℤ hl) in
    let order : (hl +ℤ (turned *ℤ high)) +ℤ neg_ℤ (r *ℤ (hh +ℤ (r *ℤ hl))) ≡ (hl +ℤ neg_ℤ (r *ℤ (r *ℤ hl))) +ℤ ((turned *ℤ high) +ℤ neg_ℤ (r *ℤ hh)) = omega (arith, ints) in
    let negated = same_negated p (r *ℤ (r *ℤ hl)) (neg_ℤ hl) second in
    let left : Same p (hl +ℤ neg_ℤ (r *ℤ (r *ℤ hl))) (hl +ℤ neg_ℤ (neg_ℤ hl)) = same_add p hl hl (neg_ℤ (r *ℤ (r *ℤ hl))) (neg_ℤ (neg_ℤ hl)) (same_is p hl hl refl) negated in
    let right : Same p ((turned *ℤ high) +ℤ neg_ℤ (r *ℤ hh)) ((r *ℤ hh) +ℤ neg_ℤ (r *ℤ hh)) = same_add p (turned *ℤ high) (r *ℤ hh) (neg_ℤ (r *ℤ hh)) (neg_ℤ (r *ℤ hh)) first (same_is p (neg_ℤ (r *ℤ hh)) (neg_ℤ (r *ℤ hh)) refl) in
    let sum = same_add p (hl +ℤ neg_ℤ (r *ℤ (r *ℤ hl))) (hl +ℤ neg_ℤ (neg_ℤ hl)) ((turned *ℤ high) +ℤ neg_ℤ (r *ℤ hh)) ((r *ℤ hh) +ℤ neg_ℤ (r *ℤ hh)) left right in
    let end : (hl +ℤ neg_ℤ (neg_ℤ hl)) +ℤ ((r *ℤ hh) +ℤ neg_ℤ (r *ℤ hh)) ≡ hl +ℤ hl = omega (arith, ints) in
    same_on p _ _ low (same_is p _ _ order) (same_on p _ _ low sum (same_on p _ (hl +ℤ hl) low (same_is p _ (hl +ℤ hl) end) third))

-- the same where only a multiple by r is left to take away
nothing_left : (p r half turned low high : ℤ) → Same p turned (r *ℤ half) →
    Same p (((half *ℤ high) +ℤ (turned *ℤ low)) +ℤ neg_ℤ ((half *ℤ high) +ℤ (r *ℤ (half *ℤ low)))) (pos 0)
nothing_left p r half turned low high is =
    let hl : ℤ = half *ℤ low in
    let hh : ℤ = half *ℤ high in
    let first : Same p (turned *ℤ low) (r *ℤ hl) = same_on p (turned *ℤ low) ((r *ℤ half) *ℤ low) (r *ℤ hl) (same_times p low turned (r *ℤ half) is) (same_is p ((r *ℤ half) *ℤ low) (r *ℤ hl) (sym (mul_assoc r half low))) in
    let order : (hh +ℤ (turned *ℤ low)) +ℤ neg_ℤ (hh +ℤ (r *ℤ hl)) ≡ (turned *ℤ low) +ℤ neg_ℤ (r *ℤ hl) = omega (arith, ints) in
    let sum = same_add p (turned *ℤ low) (r *ℤ hl) (neg_ℤ (r *ℤ hl)) (neg_ℤ (r *ℤ hl)) first (same_is p (neg_ℤ (r *ℤ hl)) (neg_ℤ (r *ℤ hl)) refl) in
    let end : (r *ℤ hl) +ℤ neg_ℤ (r *ℤ hl) ≡ pos 0 = omega (arith, ints) in
    same_on p _ _ (pos 0) (same_is p _ _ order) (same_on p _ _ (pos 0) sum (same_is p _ (pos 0) end))

-- ---- the products of the combined thirds

scaled_left : (r : ℤ) (xs h : List ℤ) → sum_of_products (map (λ x. r *ℤ x) xs) h ≡ r *ℤ sum_of_products xs h
scaled_left r [] h = let none = product_is r (pos 0) in omega (arith, ints)
scaled_left r (x ∷ xs) [] = let none = product_is r (pos 0) in omega (arith, ints)
scaled_left r (x ∷ xs) (c ∷ h) = omega (arith, ints, scaled_left r xs h, mul_assoc r x c, mul-add r (x *ℤ c) (sum_of_products xs h))

round_combined : (r : ℤ) (u v h : List ℤ) (i : ℕ) → length u ≡ length v → round (combined r u v) h i ≡ round u h i +ℤ (r *ℤ round v h i)
round_combined r u v h i same =
    let first = length-drop (i + 1) u in
    let second = length-drop (i + 1) v in
    rw (drop-combined (i + 1) r u v same) (combined_left r (drop (i + 1) u) (drop (i + 1) v) h (omega arith))

round_scaled : (r : ℤ) (xs h : List ℤ) (i : ℕ) → round (map (λ x. r *ℤ x) xs) h i ≡ r *ℤ round xs h i
round_scaled r xs h i = rw (drop-map (λ x. r *ℤ x) (i + 1) xs) (scaled_left r (drop (i + 1) xs) h)

-- the difference of the outer thirds
abbrev pub apart : List ℤ → List ℤ → List ℤ
apart u v = combined (neg_ℤ (pos 1)) u v

-- what the numbers of the passes have to be: half of 1, that times r, and r with the square -1
pub record AreTurned (p r half turned : ℤ) : Type 0 where
  pub is : Same p turned (r *ℤ half)
  pub square : Same p (r *ℤ r) (neg_ℤ (pos 1))
  pub twice : Same p (half +ℤ half) (pos 1)

pub low_sum : (p r half turned f e out : ℤ) (m i : ℕ) (x y z ws : List ℤ) → AreTurned p r half turned → length x ≡ m → length y ≡ m → length z ≡ m → length ws ≤ m → i < m →
    Same p f (sum_of_products (combined half z (apart x z) ++ combined turned y (apart x z)) (drop (2 * m - 1 - i) ws) +ℤ (pos 1 *ℤ round (combined half z (apart x z) ++ combined turned y (apart x z)) ws i)) →
    Same p e (sum_of_products (map (λ d. half *ℤ d) (apart x z)) (drop (m - 1 - i) ws) +ℤ (r *ℤ round (map (λ d. half *ℤ d) (apart x z)) ws i)) →
    Same p out (f +ℤ (neg_ℤ r *ℤ e)) → Same p out (sum_of_products (drop (i + 1) (x ++ (y ++ z))) ws)
low_sum p r half turned f e out m i x y z ws are x_long y_long z_long bound lt f_is e_is out_is =
    let d : List ℤ = apart x z in
    let d_long : length d ≡ m = length-combined (neg_ℤ (pos 1)) x z (omega arith) ∙ x_long in
    let b0_long : length (combined half z d) ≡ m = length-combined half z d (omega arith) ∙ z_long in
    let b1_long : length (combined turned y d) ≡ m = length-combined turned y d (omega arith) ∙ y_long in
    let hs : List ℤ = drop (m - 1 - i) ws in
    let low : ℤ = round d ws i in
    let high : ℤ = sum_of_products d hs in
    let front = front_part m i (combined half z d) (combined turned y d) ws b0_long b1_long bound lt in
    let b0 : round (combined half z d) ws i ≡ round z ws i +ℤ (half *ℤ low) = round_combined half z d ws i (omega arith) in
    let b1 : sum_of_products (combined turned y d) hs ≡ sum_of_products y hs +ℤ (turned *ℤ high) = combined_left turned y d hs (omega arith) in
    let v0 : sum_of_products (map (λ d. half *ℤ d) d) hs ≡ half *ℤ high = scaled_left half d hs in
    let v1 : round (map (λ d. half *ℤ d) d) ws i ≡ half *ℤ low = round_scaled half d ws i in
    let f_same : Same p f ((round z ws i +ℤ (half *ℤ low)) +ℤ (sum_of_products y hs +ℤ (turned *ℤ high))) = rw (b0, b1) at (rw front at f_is) in
    let e_same : Same p e ((half *ℤ high) +ℤ (r *ℤ (half *ℤ low))) = rw (v0, v1) at e_is in
    let product : ℤ = r *ℤ ((half *ℤ high) +ℤ (r *ℤ (half *ℤ low))) in
    let minus = neg-mul r ((half *ℤ high) +ℤ (r *ℤ (half *ℤ low))) in
    let e_turned : Same p (neg_ℤ r *ℤ e) (neg_ℤ product) = rw minus at (same_mul p (neg_ℤ r) e ((half *ℤ high) +ℤ (r *ℤ (half *ℤ low))) e_same) in
    let both = same_add p f ((round z ws i +ℤ (half *ℤ low)) +ℤ (sum_of_products y hs +ℤ (turned *ℤ high))) (neg_ℤ r *ℤ e) (neg_ℤ product) f_same e_turned in
    let kept : ℤ = round z ws i +ℤ sum_of_products y hs in
    let change : ℤ = ((half *ℤ low) +ℤ (turned *ℤ high)) +ℤ neg_ℤ product in
    let order : ((round z ws i +ℤ (half *ℤ low)) +ℤ (sum_of_products y hs +ℤ (turned *ℤ high))) +ℤ neg_ℤ product ≡ kept +ℤ change = omega (arith, ints) in
    let taken = taken_away p r half turned low high are.is are.square are.twice in
    let sum : Same p (kept +ℤ change) (kept +ℤ low) = same_add p kept kept change low (same_is p kept kept refl) taken in
    let d_low : low ≡ round x ws i +ℤ (neg_ℤ (pos 1) *ℤ round z ws i) = round_combined (neg_ℤ (pos 1)) x z ws i (omega arith) in
    let once = neg-mul (pos 1) (round z ws i) in
    let unit = product_is (pos 1) (round z ws i) in
    let over = over_next m i x y z ws x_long y_long bound lt in
    let end : kept +ℤ low ≡ sum_of_products (drop (i + 1) (x ++ (y ++ z))) ws = omega (arith, ints) in
    same_on p out (f +ℤ (neg_ℤ r *ℤ e)) _ out_is (same_on p (f +ℤ (neg_ℤ r *ℤ e)) _ _ both (same_on p _ (kept +ℤ change) _ (same_is p _ _ order) (same_on p (kept +ℤ change) (kept +ℤ low) _ sum (same_is p (kept +ℤ low) _ end))))

pub high_sum : (p r half turned f e out : ℤ) (m i : ℕ) (x y z ws : List ℤ) → AreTurned p r half turned → length x ≡ m → length y ≡ m → length z ≡ m → length ws ≤ m → i < m →
    Same p f (sum_of_products (combined half z (apart x z) ++ combined turned y (apart x z)) (drop (2 * m - 1 - (m + i)) ws) +ℤ (pos 1 *ℤ round (combined half z (apart x z) ++ combined turned y (apart x z)) ws (m + i))) →
    Same p e (sum_of_products (map (λ d. half *ℤ d) (apart x z)) (drop (m - 1 - i) ws) +ℤ (r *ℤ round (map (λ d. half *ℤ d) (apart x z)) ws i)) →
    Same p out (f +ℤ neg_ℤ e) → Same p out (sum_of_products (drop (m + i + 1) (x ++ (y ++ z))) ws)
high_sum p r half turned f e out m i x y z ws are x_long y_long z_long bound lt f_is e_is out_is =
    let d : List ℤ = apart x z in
    let d_long : length d ≡ m = length-combined (neg_ℤ (pos 1)) x z (omega arith) ∙ x_long in
    let b0_long : length (combined half z d) ≡ m = length-combined half z d (omega arith) ∙ z_long in
    let b1_long : length (combined turned y d) ≡ m = length-combined turned y d (omega arith) ∙ y_long in
    let hs : List ℤ = drop (m - 1 - i) ws in
    let low : ℤ = round d ws i in
    let high : ℤ = sum_of_products d hs in
    let back = back_part m i (combined half z d) (combined turned y d) ws b0_long b1_long bound lt in
    let b0 : sum_of_products (combined half z d) hs ≡ sum_of_products z hs +ℤ (half *ℤ high) = combined_left half z d hs (omega arith) in
    let b1 : round (combined turned y d) ws i ≡ round y ws i +ℤ (turned *ℤ low) = round_combined turned y d ws i (omega arith) in
    let v0 : sum_of_products (map (λ d. half *ℤ d) d) hs ≡ half *ℤ high = scaled_left half d hs in
    let v1 : round (map (λ d. half *ℤ d) d) ws i ≡ half *ℤ low = round_scaled half d ws i in
    let f_same : Same p f ((sum_of_products z hs +ℤ (half *ℤ high)) +ℤ (round y ws i +ℤ (turned *ℤ low))) = rw (b0, b1) at (rw back at f_is) in
    let product : ℤ = (half *ℤ high) +ℤ (r *ℤ (half *ℤ low)) in
    let e_same : Same p e product = rw (v0, v1) at e_is in
    let both = same_add p f ((sum_of_products z hs +ℤ (half *ℤ high)) +ℤ (round y ws i +ℤ (turned *ℤ low))) (neg_ℤ e) (neg_ℤ product) f_same (same_negated p e product e_same) in
    let kept : ℤ = round y ws i +ℤ sum_of_products z hs in
    let change : ℤ = ((half *ℤ high) +ℤ (turned *ℤ low)) +ℤ neg_ℤ product in
    let order : ((sum_of_products z hs +ℤ (half *ℤ high)) +ℤ (round y ws i +ℤ (turned *ℤ low))) +ℤ neg_ℤ product ≡ kept +ℤ change = omega (arith, ints) in
    let nought = nothing_left p r half turned low high are.is in
    let sum : Same p (kept +ℤ change) (kept +ℤ pos 0) = same_add p kept kept change (pos 0) (same_is p kept kept refl) nought in
    let over = over_last m i x y z ws x_long y_long lt in
    let end : kept +ℤ pos 0 ≡ sum_of_products (drop (m + i + 1) (x ++ (y ++ z))) ws = omega (arith, ints) in
    same_on p out (f +ℤ neg_ℤ e) _ out_is (same_on p (f +ℤ neg_ℤ e) _ _ both (same_on p _ (kept +ℤ change) _ (same_is p _ _ order) (same_on p (kept +ℤ change) (kept +ℤ pos 0) _ sum (same_is p (kept +ℤ pos 0) _ end))))
