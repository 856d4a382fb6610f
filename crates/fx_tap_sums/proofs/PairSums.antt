-- Sums of numbers of 16 bits times weights, two taps at a time.
use Rattle.std.proofs.Common.{inl, inr, ◌≡◌, ℕ, ◌+◌, ◌*◌, ◌/◌, ◌%◌, ◌^◌, ◌<◌, ◌≤◌, List, [], ◌∷◌, length, drop, take, get_or, refl, sym, ap, ◌∙◌, arith, ℤ, pos, ◌+ℤ◌, ◌*ℤ◌, FitsSigned, sum_by, unsigned_abs, w16}
use Rattle.std.proofs.lemmas.Bool.{cases_lt}
use Rattle.std.proofs.lemmas.Int.{ints}
use Rattle.std.proofs.lemmas.List.{drop_more, drop_all, drop-drop, get_or-drop, get_or-take, get_or_past, length-drop, length-take-le, take_all}
use Rattle.std.proofs.lemmas.List.Sums.{sum_by-cons}
use Rattle.std.proofs.lemmas.Simd.{Each1-get_or}
use borrow.Author.Differences.{product_is}
use Rattle.fx_tap_sums.specs.Pairs.{EightHalves, FourFit, IsTable, PairsAdded, PairsFit, pair_product}
use Rattle.fx_tap_sums.specs.Products.{sum_of_products}
use Rattle.fx_tap_sums.proofs.Cyclic.{nothing}
use Rattle.fx_tap_sums.proofs.Magnitudes.{added-bound, scaled-bound}
use Rattle.std.proofs.Math.IntN.{*ℤ_comm}
use Rattle.fx_tap_sums.proofs.Numbers.{add-mul, mul_assoc}
use Rattle.fx_tap_sums.proofs.PairLanes.{four_back, half-bound, halves_back, passed_four, passed_halves}
use Rattle.fx_tap_sums.proofs.Convolving.{placed-more}
use Rattle.fx_tap_sums.proofs.ProductBounds.{sum_of_products-drop}

-- the products before a tap are added; with those to come it is the whole sum, and it is no greater than they allow
pub record AddingHalves (xs ws : List ℤ) (tap : ℕ) (s : ℤ) : Type 0 where
  pub value : s +ℤ sum_of_products (drop tap xs) (drop tap ws) ≡ sum_of_products xs ws
  pub bound : unsigned_abs s + 2 ^ 15 * sum_by unsigned_abs (drop tap ws) ≤ 2 ^ 15 * sum_by unsigned_abs ws

-- a tap more, where there is one: 0 is the weight of one that there is not
step : (xs ws : List ℤ) (tap : ℕ) → tap < length xs
    → (sum_of_products (drop tap xs) (drop tap ws) ≡ (get_or xs tap (pos 0) *ℤ get_or ws tap (pos 0)) +ℤ sum_of_products (drop (tap + 1) xs) (drop (tap + 1) ws))
    × (sum_by unsigned_abs (drop tap ws) ≡ unsigned_abs (get_or ws tap (pos 0)) + sum_by unsigned_abs (drop (tap + 1) ws))
step xs ws tap in_xs = elim (cases_lt tap (length ws)) [
  | inl in_ws ↦ (sum_of_products-drop xs ws tap (pos 0) (pos 0) in_xs in_ws, rw (drop_more ws tap (pos 0) in_ws) (sum_by-cons unsigned_abs (get_or ws tap (pos 0)) (drop (tap + 1) ws)))
  | inr over ↦
      let none : get_or ws tap (pos 0) ≡ pos 0 = get_or_past ws tap (pos 0) over in
      let rest : drop (tap + 1) ws ≡ [] = drop_all (tap + 1) ws (omega arith) in
      let product = product_is (get_or xs tap (pos 0)) (pos 0) in
      (rw (drop_all tap ws over, rest, none, nothing (drop tap xs), nothing (drop (tap + 1) xs)) (omega (arith, ints, product)), rw (drop_all tap ws over, rest, none) (omega arith))
]

next-bound : (s p : ℤ) (w rest all whole : ℕ) → unsigned_abs p ≤ 2 ^ 15 * w → unsigned_abs s + 2 ^ 15 * all ≤ 2 ^ 15 * whole → all ≡ w + rest → unsigned_abs (s +ℤ p) + 2 ^ 15 * rest ≤ 2 ^ 15 * whole
next-bound s p w rest all whole product bound split =
    let maximum = added-bound s p (unsigned_abs s) (2 ^ 15 * w) (omega arith) product in
    omega (arith, maximum, bound, split)

AddingHalves-next : (xs ws : List ℤ) (tap : ℕ) (s : ℤ) → tap < length xs → unsigned_abs (get_or xs tap (pos 0)) ≤ 2 ^ 15 → AddingHalves xs ws tap s
    → AddingHalves xs ws (tap + 1) (s +ℤ (get_or xs tap (pos 0) *ℤ get_or ws tap (pos 0)))
AddingHalves-next xs ws tap s in_xs sample a =
    let x : ℤ = get_or xs tap (pos 0) in
    let w : ℤ = get_or ws tap (pos 0) in
    let more = step xs ws tap in_xs in
    let product = scaled-bound x w (2 ^ 15) (unsigned_abs w) sample (omega arith) in
    record {
      value = omega (arith, ints, more.0, a.value);
      bound = next-bound s (x *ℤ w) (unsigned_abs w) _ _ _ product a.bound more.1;
    }

-- two taps more
pub AddingHalves-two : (xs ws : List ℤ) (tap : ℕ) (s : ℤ) → tap + 1 < length xs → unsigned_abs (get_or xs tap (pos 0)) ≤ 2 ^ 15 → unsigned_abs (get_or xs (tap + 1) (pos 0)) ≤ 2 ^ 15 → AddingHalves xs ws tap s
    → AddingHalves xs ws (tap + 2) (s +ℤ pair_product xs tap ws tap)
AddingHalves-two xs ws tap s in_xs first second a =
    let two : tap + 1 + 1 ≡ tap + 2 = omega arith in
    let b = AddingHalves-next xs ws tap s (omega (arith, in_xs)) first a in
    let c = AddingHalves-next xs ws (tap + 1) _ in_xs second b in
    let sum : (s +ℤ (get_or xs tap (pos 0) *ℤ get_or ws tap (pos 0))) +ℤ (get_or xs (tap + 1) (pos 0) *ℤ get_or ws (tap + 1) (pos 0)) ≡ s +ℤ pair_product xs tap ws tap = omega (arith, ints) in
    rw (two, sum) at c

-- how large two products are
pub two-bound : (xs ws : List ℤ) (tap : ℕ) (s : ℤ) → tap + 1 < length xs → unsigned_abs (get_or xs tap (pos 0)) ≤ 2 ^ 15 → unsigned_abs (get_or xs (tap + 1) (pos 0)) ≤ 2 ^ 15 → AddingHalves xs ws tap s
    → unsigned_abs (pair_product xs tap ws tap) ≤ 2 ^ 15 * sum_by unsigned_abs ws
two-bound xs ws tap s in_xs first second a =
    let w : ℤ = get_or ws tap (pos 0) in
    let v : ℤ = get_or ws (tap + 1) (pos 0) in
    let one = (step xs ws tap (omega (arith, in_xs))).1 in
    let other = (step xs ws (tap + 1) in_xs).1 in
    let left = scaled-bound (get_or xs tap (pos 0)) w (2 ^ 15) (unsigned_abs w) first (omega arith) in
    let right = scaled-bound (get_or xs (tap + 1) (pos 0)) v (2 ^ 15) (unsigned_abs v) second (omega arith) in
    omega (arith, one, other, added-bound (get_or xs tap (pos 0) *ℤ w) (get_or xs (tap + 1) (pos 0) *ℤ v) (2 ^ 15 * unsigned_abs w) (2 ^ 15 * unsigned_abs v) left right, a.bound)

-- after the last tap
pub AddingHalves-last : (xs ws : List ℤ) (tap : ℕ) (s : ℤ) → length ws ≤ tap → AddingHalves xs ws tap s → s ≡ sum_of_products xs ws
AddingHalves-last xs ws tap s over a =
    let none : drop tap ws ≡ [] = drop_all tap ws over in
    let whole = rw (none, nothing (drop tap xs)) at a.value in
    omega (arith, ints, whole)

pub AddingHalves-bound : (xs ws : List ℤ) (tap : ℕ) (s : ℤ) → AddingHalves xs ws tap s → unsigned_abs s ≤ 2 ^ 15 * sum_by unsigned_abs ws
AddingHalves-bound xs ws tap s a = let bound = a.bound in omega (arith, bound)

-- ---- four sums, from every other place on

pub record AddingFour (halves ws : List ℤ) (base pair : ℕ) (lanes : List ℤ) : Type 0 where
  pub fit : FourFit lanes
  pub each : (k : ℕ) → k < 4 → AddingHalves (drop (base + 2 * k) halves) ws (2 * pair) (get_or lanes k (pos 0))

-- eight numbers from a place on, and the two weights of a pair beside one another four times
pub record Loaded (halves x : List ℤ) (at : ℕ) : Type 0 where
  pub fit : EightHalves x
  pub are : (j : ℕ) → j < 8 → get_or x j (pos 0) ≡ get_or halves (at + j) (pos 0)

pub record AtPair (ws weights : List ℤ) (tap : ℕ) : Type 0 where
  pub first : (k : ℕ) → k < 4 → get_or weights (2 * k) (pos 0) ≡ get_or ws tap (pos 0)
  pub second : (k : ℕ) → k < 4 → get_or weights (2 * k + 1) (pos 0) ≡ get_or ws (tap + 1) (pos 0)

pub at-pair : (ws table weights : List ℤ) (pair : ℕ) → IsTable ws table → 2 * pair < length ws → Loaded table weights (8 * pair) → AtPair ws weights (2 * pair)
at-pair ws table weights pair pairs l loaded =
    record {
      first = λ k m.
          let place : 2 * ((8 * pair + 2 * k) / 8) + (8 * pair + 2 * k) % 2 ≡ 2 * pair = omega (arith, m) in
          loaded.are (2 * k) (omega (arith, m)) ∙ pairs.each (8 * pair + 2 * k) (omega (arith, pairs.long, l, m)) ∙ ap (λ i. get_or ws i (pos 0)) place;
      second = λ k m.
          let place : 2 * ((8 * pair + (2 * k + 1)) / 8) + (8 * pair + (2 * k + 1)) % 2 ≡ 2 * pair + 1 = omega (arith, m) in
          loaded.are (2 * k + 1) (omega (arith, m)) ∙ pairs.each (8 * pair + (2 * k + 1)) (omega (arith, pairs.long, l, m)) ∙ ap (λ i. get_or ws i (pos 0)) place;
    }

-- what a lane multiplies
pub record Lane (halves ws x weights : List ℤ) (base tap k : ℕ) : Type 0 where
  pub product : pair_product x (2 * k) weights (2 * k) ≡ pair_product (drop (base + 2 * k) halves) tap ws tap
  pub inside : tap + 1 < length (drop (base + 2 * k) halves)
  pub first : unsigned_abs (get_or (drop (base + 2 * k) halves) tap (pos 0)) ≤ 2 ^ 15
  pub second : unsigned_abs (get_or (drop (base + 2 * k) halves) (tap + 1) (pos 0)) ≤ 2 ^ 15

pub lane : (halves ws x weights : List ℤ) (base tap at k : ℕ) → k < 4 → base ≤ 9 → tap < length ws → length ws + 16 ≤ length halves → at ≡ tap + base → Loaded halves x at → AtPair ws weights tap → Lane halves ws x weights base tap k
lane halves ws x weights base tap at k m low l long is loaded pair =
    let xs : List ℤ = drop (base + 2 * k) halves in
    let left = length-drop (base + 2 * k) halves in
    let first : get_or x (2 * k) (pos 0) ≡ get_or xs tap (pos 0) = loaded.are (2 * k) (omega (arith, m)) ∙ ap (λ i. get_or halves i (pos 0)) (omega (arith, is)) ∙ sym (get_or-drop (base + 2 * k) halves tap (pos 0)) in
    let second : get_or x (2 * k + 1) (pos 0) ≡ get_or xs (tap + 1) (pos 0) = loaded.are (2 * k + 1) (omega (arith, m)) ∙ ap (λ i. get_or halves i (pos 0)) (omega (arith, is)) ∙ sym (get_or-drop (base + 2 * k) halves (tap + 1) (pos 0)) in
    let fits = λ (j : ℕ) (n : j < 8). half-bound (get_or x j (pos 0)) (Each1-get_or (FitsSigned w16) x j (pos 0) (omega (arith, loaded.fit.eight, n)) loaded.fit.fits) in
    record {
      product = rw (first, second, pair.first k m, pair.second k m) refl;
      inside = omega (arith, left, l, long, low, m);
      first = rw (← first) (fits (2 * k) (omega (arith, m)));
      second = rw (← second) (fits (2 * k + 1) (omega (arith, m)));
    }

pub pairs-fit : (halves ws x weights lanes : List ℤ) (base pair at : ℕ) → base ≤ 9 → 2 * pair < length ws → length ws + 16 ≤ length halves → at ≡ 2 * pair + base → sum_by unsigned_abs ws ≤ 65535 → Loaded halves x at → EightHalves weights → AtPair ws weights (2 * pair)
    → AddingFour halves ws base pair lanes → PairsFit lanes (passed_halves x) (passed_halves weights)
pairs-fit halves ws x weights lanes base pair at low l long is small loaded fit weigh a = rw (halves_back x loaded.fit, halves_back weights fit) (record {
  sums_fit = a.fit;
  are_halves = loaded.fit;
  weights_fit = fit;
  product = λ k m.
      let n = lane halves ws x weights base (2 * pair) at k m low l long is loaded weigh in
      let bound = two-bound (drop (base + 2 * k) halves) ws (2 * pair) _ n.inside n.first n.second (a.each k m) in
      rw n.product (omega (arith, bound, small));
  sum = λ k m.
      let n = lane halves ws x weights base (2 * pair) at k m low l long is loaded weigh in
      rw n.product (omega (arith, AddingHalves-bound _ ws _ _ (AddingHalves-two (drop (base + 2 * k) halves) ws (2 * pair) _ n.inside n.first n.second (a.each k m)), small));
})

pub AddingFour-next : (halves ws x weights lanes next : List ℤ) (base pair at : ℕ) → base ≤ 9 → 2 * pair < length ws → length ws + 16 ≤ length halves → at ≡ 2 * pair + base → Loaded halves x at → EightHalves weights → AtPair ws weights (2 * pair) → AddingFour halves ws base pair lanes
    → PairsAdded lanes (passed_halves x) (passed_halves weights) next → AddingFour halves ws base (pair + 1) (passed_four next)
AddingFour-next halves ws x weights lanes next base pair at low l long is loaded fit weigh a passed =
    let added = rw (halves_back x loaded.fit, halves_back weights fit) at passed in
    rw (four_back next added.fit) (record {
      fit = added.fit;
      each = λ k m.
          let n = lane halves ws x weights base (2 * pair) at k m low l long is loaded weigh in
          let two : 2 * (pair + 1) ≡ 2 * pair + 2 = omega arith in
          rw (two, added.value k m, n.product) (AddingHalves-two (drop (base + 2 * k) halves) ws (2 * pair) _ n.inside n.first n.second (a.each k m));
    })

pub AddingFour-last : (halves ws lanes : List ℤ) (base pair : ℕ) → length ws ≤ 2 * pair → AddingFour halves ws base pair lanes → (k : ℕ) → k < 4 → get_or lanes k (pos 0) ≡ sum_of_products (drop (base + 2 * k) halves) ws
AddingFour-last halves ws lanes base pair over a k m = AddingHalves-last (drop (base + 2 * k) halves) ws (2 * pair) _ over (a.each k m)

-- ---- sums in turns

-- what holds of four places and the four between them holds of all eight
pub turns : (P : ℕ → ℤ → Type 0) (at : ℕ) (new : List ℤ) → ((k : ℕ) → k < 4 → P (at + 2 * k) (get_or new (at + 2 * k) (pos 0))) → ((k : ℕ) → k < 4 → P (at + 2 * k + 1) (get_or new (at + 2 * k + 1) (pos 0)))
    → (j : ℕ) → j < 8 → P (at + j) (get_or new (at + j) (pos 0))
turns P at new even odd j l = elim (cases_lt (j % 2) 1) [
  | inl half ↦ let place : at + 2 * (j / 2) ≡ at + j = omega arith in rw place at (even (j / 2) (omega arith))
  | inr half ↦ let place : at + 2 * (j / 2) + 1 ≡ at + j = omega arith in rw place at (odd (j / 2) (omega arith))
]

-- what holds of the lanes of four vectors, which were put in turns, holds of all sixteen
pub sixteen-turns : (P : ℕ → ℤ → Type 0) (half new first second third fourth : List ℤ)
    → ((k : ℕ) → k < 4 → get_or half (0 + 2 * k) (pos 0) ≡ get_or first k (pos 0)) → ((k : ℕ) → k < 4 → get_or half (0 + 2 * k + 1) (pos 0) ≡ get_or second k (pos 0)) → ((i : ℕ) → i < 8 → get_or new i (pos 0) ≡ get_or half i (pos 0))
    → ((k : ℕ) → k < 4 → get_or new (8 + 2 * k) (pos 0) ≡ get_or third k (pos 0)) → ((k : ℕ) → k < 4 → get_or new (8 + 2 * k + 1) (pos 0) ≡ get_or fourth k (pos 0))
    → ((k : ℕ) → k < 4 → P (0 + 2 * k) (get_or first k (pos 0))) → ((k : ℕ) → k < 4 → P (1 + 2 * k) (get_or second k (pos 0))) → ((k : ℕ) → k < 4 → P (8 + 2 * k) (get_or third k (pos 0))) → ((k : ℕ) → k < 4 → P (9 + 2 * k) (get_or fourth k (pos 0)))
    → (i : ℕ) → i < 16 → P i (get_or new i (pos 0))
sixteen-turns P half new first second third fourth evens odds before later_evens later_odds a b c d =
    let odd = λ (k n base : ℕ) (z : ℤ) (is : base + 2 * k ≡ n) (at : P (base + 2 * k) z). rw is at at in
    let front = placed-more P 8 0 half (λ i l. absurd (omega (arith, l))) (turns P 0 half (λ k l. rw (evens k l) (a k l)) (λ k l. rw (odds k l) (odd k (0 + 2 * k + 1) 1 _ (omega arith) (b k l)))) in
    placed-more P 8 8 new (λ i l. rw (before i l) (front i l)) (turns P 8 new (λ k l. rw (later_evens k l) (c k l)) (λ k l. rw (later_odds k l) (odd k (8 + 2 * k + 1) 9 _ (omega arith) (d k l))))

-- the sum of each lane, scaled
pub sum-at : (halves ws lanes zs : List ℤ) (base pair : ℕ) → length ws ≤ 2 * pair → AddingFour halves ws base pair lanes → ((k : ℕ) → k < 4 → get_or zs k (pos 0) ≡ get_or lanes k (pos 0) *ℤ pos 65536)
    → (k : ℕ) → k < 4 → get_or zs k (pos 0) ≡ sum_of_products (drop (base + 2 * k) halves) ws *ℤ pos 65536
sum-at halves ws lanes zs base pair over a are k m = are k m ∙ ap (λ s. s *ℤ pos 65536) (AddingFour-last halves ws lanes base pair over a k m)

-- ---- sums of samples that are multiples of 65,536

pub scaled-sum : (xs hs ws : List ℤ) (place : ℕ) → place + length ws ≤ length xs → place + length ws ≤ length hs → ((i : ℕ) → i < place + length ws → get_or xs i (pos 0) ≡ get_or hs i (pos 0) *ℤ pos 65536)
    → sum_of_products (drop place hs) ws *ℤ pos 65536 ≡ sum_of_products (drop place xs) ws
scaled-sum xs hs [] place in_xs in_hs are = rw (nothing (drop place hs), nothing (drop place xs)) refl
scaled-sum xs hs (w ∷ ws) place in_xs in_hs are =
    let next : place + 1 + length ws ≡ place + length (w ∷ ws) = omega arith in
    let rest = scaled-sum xs hs ws (place + 1) (omega (arith, next, in_xs)) (omega (arith, next, in_hs)) (λ i l. are i (omega (arith, next, l))) in
    let x : ℤ = get_or xs place (pos 0) in
    let h : ℤ = get_or hs place (pos 0) in
    let is = are place (omega arith) in
    let split = add-mul (h *ℤ w) (sum_of_products (drop (place + 1) hs) ws) (pos 65536) in
    let turned : (h *ℤ w) *ℤ pos 65536 ≡ x *ℤ w = ap (λ z. z *ℤ pos 65536) (*ℤ_comm h w) ∙ sym (mul_assoc w h (pos 65536)) ∙ ap (λ z. w *ℤ z) (sym is) ∙ *ℤ_comm w x in
    rw (drop_more hs place (pos 0) (omega (arith, in_hs)), drop_more xs place (pos 0) (omega (arith, in_xs))) (omega (arith, ints, split, turned, rest))

-- a sum of a group, from its place of the whole window on
pub group-sum : (window halves ws : List ℤ) (z : ℤ) (at n i count : ℕ) → length (drop at halves) ≤ n → at + i + length ws ≤ count → count ≤ length window → at + i + length ws ≤ length halves
    → ((j : ℕ) → j < length (take count window) → get_or (take count window) j (pos 0) ≡ get_or halves j (pos 0) *ℤ pos 65536)
    → z ≡ sum_of_products (drop i (take n (drop at halves))) ws *ℤ pos 65536 → z ≡ sum_of_products (drop (at + i) window) ws
group-sum window halves ws z at n i count whole inside short free are is =
    let long = length-take-le count window short in
    is ∙ ap (λ hs. sum_of_products (drop i hs) ws *ℤ pos 65536) (take_all n (drop at halves) whole)
    ∙ ap (λ hs. sum_of_products hs ws *ℤ pos 65536) (drop-drop i at halves)
    ∙ scaled-sum window halves ws (at + i) (omega (arith, inside, short)) free (λ j l. sym (get_or-take count window j (pos 0) (omega (arith, l, inside))) ∙ are j (omega (arith, long, l, inside)))
