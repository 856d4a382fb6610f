-- Sums of samples times small weights, tap by tap and side by side.
use Rattle.std.proofs.Common.{inl, inr, ◌≡◌, ℕ, replicate, ◌+◌, ◌-◌, ◌*◌, ◌^◌, ◌<◌, ◌≤◌, List, [], ◌++◌, length, take, drop, get_or, refl, sym, ap, ◌∙◌, arith, ℤ, pos, ◌+ℤ◌, ◌*ℤ◌, length-append, sum_by, unsigned_abs}
use Rattle.std.specs.Simd.Lanes.{put_chunk, zip2}
use borrow.Rule.Slice.PartMut.{put_mid}
use Rattle.std.proofs.lemmas.Bool.{cases_lt}
use Rattle.std.proofs.lemmas.Int.{ints}
use Rattle.std.proofs.lemmas.List.{drop_more, drop_all, get_or-drop, get_or-append-add, get_or-replicate, get_or_append_left, get_or-take, length-drop, length-take-le}
use Rattle.std.proofs.lemmas.List.Sums.{sum_by-cons}
use Rattle.std.proofs.lemmas.Simd.{Each1-from_get_or, Each1-get_or, Each1-replicate, get_or-zip2, length-zip2, put_chunk_is}
use Rattle.fx_tap_sums.specs.Lanes.{LanesWithin, WithinLane}
use Rattle.fx_tap_sums.specs.Products.{sum_of_products}
use Rattle.fx_tap_sums.proofs.ProductLanes.{passed_wide, wide_back}
use Rattle.fx_tap_sums.proofs.ProductBounds.{sum_of_products-drop}
use Rattle.fx_tap_sums.proofs.Magnitudes.{added-bound, scaled-bound}
use Rattle.fx_tap_sums.proofs.Cyclic.{nothing}

-- the products before a tap are added; with those to come it is the whole sum, and it has room for them
pub record Adding (xs ws : List ℤ) (tap : ℕ) (s : ℤ) : Type 0 where
  pub value : s +ℤ sum_of_products (drop tap xs) (drop tap ws) ≡ sum_of_products xs ws
  pub bound : unsigned_abs s + 2 ^ 31 * sum_by unsigned_abs (drop tap ws) ≤ 2 ^ 61

pub Adding-first : (xs ws : List ℤ) → sum_by unsigned_abs ws ≤ 2 ^ 30 → Adding xs ws 0 (pos 0)
Adding-first xs ws small = record {
  value = omega (arith, ints);
  bound = omega (arith, small);
}

-- one weight fewer
one-fewer : (ws : List ℤ) (tap : ℕ) → tap < length ws → sum_by unsigned_abs (drop tap ws) ≡ unsigned_abs (get_or ws tap (pos 0)) + sum_by unsigned_abs (drop (tap + 1) ws)
one-fewer ws tap h = rw (drop_more ws tap (pos 0) h) (sum_by-cons unsigned_abs (get_or ws tap (pos 0)) (drop (tap + 1) ws))

-- the weight of a tap has room
pub weight-bound : (xs ws : List ℤ) (tap : ℕ) (s : ℤ) → tap < length ws → Adding xs ws tap s → unsigned_abs (get_or ws tap (pos 0)) ≤ 2 ^ 30
weight-bound xs ws tap s h a = omega (arith, one-fewer ws tap h, a.bound)

next-bound : (s p : ℤ) (x w rest whole : ℕ) → unsigned_abs p ≤ x * w → x ≡ 2 ^ 31 → unsigned_abs s + 2 ^ 31 * whole ≤ 2 ^ 61 → whole ≡ w + rest → unsigned_abs (s +ℤ p) + 2 ^ 31 * rest ≤ 2 ^ 61
next-bound s p x w rest whole product size bound split =
    let maximum = added-bound s p (unsigned_abs s) (x * w) (omega arith) product in
    let scaled : x * w ≡ 2 ^ 31 * w = ap (λ n. n * w) size in
    omega (arith, maximum, bound, split, scaled)

pub Adding-next : (xs ws : List ℤ) (tap : ℕ) (s t : ℤ) → tap < length ws → tap < length xs → unsigned_abs (get_or xs tap (pos 0)) ≤ 2 ^ 31
    → t ≡ s +ℤ (get_or xs tap (pos 0) *ℤ get_or ws tap (pos 0)) → Adding xs ws tap s → Adding xs ws (tap + 1) t
Adding-next xs ws tap s t in_ws in_xs sample more a =
    let x : ℤ = get_or xs tap (pos 0) in
    let w : ℤ = get_or ws tap (pos 0) in
    let step = sum_of_products-drop xs ws tap (pos 0) (pos 0) in_xs in_ws in
    let product = scaled-bound x w (2 ^ 31) (unsigned_abs w) sample (omega arith) in
    record {
      value = omega (arith, ints, step, a.value, more);
      bound = rw more (next-bound s (x *ℤ w) (2 ^ 31) (unsigned_abs w) _ _ product refl a.bound (one-fewer ws tap in_ws));
    }

-- after the last tap
pub Adding-last : (xs ws : List ℤ) (tap : ℕ) (s : ℤ) → length ws ≤ tap → Adding xs ws tap s → s ≡ sum_of_products xs ws
Adding-last xs ws tap s over a =
    let none : drop tap ws ≡ [] = drop_all tap ws over in
    let whole = rw (none, nothing (drop tap xs)) at a.value in
    omega (arith, ints, whole)

pub Adding-bound : (xs ws : List ℤ) (tap : ℕ) (s : ℤ) → Adding xs ws tap s → unsigned_abs s ≤ 2 ^ 61
Adding-bound xs ws tap s a = let bound = a.bound in omega (arith, bound)

-- ---- side by side

-- four lanes, each with the sum from its place of the window on: every second place from a base on
pub record AddingLanes (window ws : List ℤ) (base tap : ℕ) (lanes : List ℤ) : Type 0 where
  pub four : length lanes ≡ 4
  pub each : (k : ℕ) → k < 4 → Adding (drop (base + 2 * k) window) ws tap (get_or lanes k (pos 0))

pub AddingLanes-within : (window ws : List ℤ) (base tap : ℕ) (lanes : List ℤ) → AddingLanes window ws base tap lanes → LanesWithin (2 ^ 61) lanes
AddingLanes-within window ws base tap lanes a = record {
  four = a.four;
  small = Each1-from_get_or (WithinLane (2 ^ 61)) lanes (pos 0) (λ k l. Adding-bound (drop (base + 2 * k) window) ws tap (get_or lanes k (pos 0)) (a.each k (rw a.four at l)));
}

pub AddingLanes-next : (window ws : List ℤ) (base tap at : ℕ) (lanes loaded next : List ℤ) (w : ℤ) → tap < length ws → length ws + 15 ≤ length window → base ≤ 9 → at ≡ tap + base → LanesWithin (2 ^ 31) loaded
    → ((k : ℕ) → k < 4 → get_or loaded k (pos 0) ≡ get_or window (at + 2 * k) (pos 0)) → w ≡ get_or ws tap (pos 0) → LanesWithin (2 ^ 62) next
    → ((k : ℕ) → k < 4 → get_or next k (pos 0) ≡ get_or lanes k (pos 0) +ℤ (get_or (passed_wide loaded) k (pos 0) *ℤ w)) → AddingLanes window ws base tap lanes → AddingLanes window ws base (tap + 1) (passed_wide next)
AddingLanes-next window ws base tap at lanes loaded next w in_ws long low place small samples is next_small more_passed a = rw (wide_back (2 ^ 62) next (omega arith) next_small) (record {
  four = next_small.four;
  each = λ k l.
      let more = rw (wide_back (2 ^ 31) loaded (omega arith) small) at more_passed in
      let left = length-drop (base + 2 * k) window in
      let in_xs : tap < length (drop (base + 2 * k) window) = omega (arith, left, in_ws, long, low, l) in
      let here : get_or (drop (base + 2 * k) window) tap (pos 0) ≡ get_or loaded k (pos 0) = get_or-drop (base + 2 * k) window tap (pos 0) ∙ ap (λ i. get_or window i (pos 0)) (omega (arith, place)) ∙ sym (samples k l) in
      let bound = Each1-get_or (WithinLane (2 ^ 31)) loaded k (pos 0) (rw small.four l) small.small in
      Adding-next (drop (base + 2 * k) window) ws tap (get_or lanes k (pos 0)) (get_or next k (pos 0)) in_ws in_xs (rw here bound)
      (more k l ∙ ap (λ z. get_or lanes k (pos 0) +ℤ z) (ap (λ x. x *ℤ w) (sym here) ∙ ap (λ y. get_or (drop (base + 2 * k) window) tap (pos 0) *ℤ y) is))
      (a.each k l);
})

pub AddingLanes-last : (window ws : List ℤ) (base tap : ℕ) (lanes : List ℤ) → length ws ≤ tap → AddingLanes window ws base tap lanes → (k : ℕ) → k < 4 → get_or lanes k (pos 0) ≡ sum_of_products (drop (base + 2 * k) window) ws
AddingLanes-last window ws base tap lanes over a k l = Adding-last (drop (base + 2 * k) window) ws tap (get_or lanes k (pos 0)) over (a.each k l)

-- ---- sums in their places

-- what holds before a place and at so many from it on
pub placed-more : (P : ℕ → ℤ → Type 0) (n at : ℕ) (new : List ℤ) → ((i : ℕ) → i < at → P i (get_or new i (pos 0))) → ((k : ℕ) → k < n → P (at + k) (get_or new (at + k) (pos 0))) → (i : ℕ) → i < at + n → P i (get_or new i (pos 0))
placed-more P n at new before put i l = elim (cases_lt i at) [
  | inl below ↦ before i below
  | inr above ↦ let split : at + (i - at) ≡ i = omega arith in rw split at (put (i - at) (omega arith))
]

-- ---- lanes

-- a weight in each lane
pub splat-within : (w : ℤ) → unsigned_abs w ≤ 2 ^ 30 → LanesWithin (2 ^ 30) (replicate 4 w)
splat-within w small = record {
  four = refl;
  small = Each1-replicate (WithinLane (2 ^ 30)) 4 w small;
}

-- a weight times each sample is added, lane by lane
pub products-added : (sums xs : List ℤ) (k : ℕ) (y w : ℤ) → length sums ≡ 4 → length xs ≡ 4 → y ≡ w → k < 4
    → get_or (zip2 (λ a b. a +ℤ b) sums (zip2 (λ a b. a *ℤ b) xs (replicate 4 y))) k (pos 0) ≡ get_or sums k (pos 0) +ℤ (get_or xs k (pos 0) *ℤ w)
products-added sums xs k y w four long is l =
    let ys : List ℤ = replicate 4 y in
    let products : List ℤ = zip2 (λ a b. a *ℤ b) xs ys in
    let size : length products ≡ 4 = length-zip2 (λ a b. a *ℤ b) xs ys long ∙ long in
    let weight : get_or ys k (pos 0) ≡ w = get_or-replicate 4 k y (pos 0) l ∙ is in
    get_or-zip2 (λ a b. a +ℤ b) sums products k (pos 0) (pos 0) (pos 0) (omega (arith, four, l)) (omega (arith, size, l))
    ∙ ap (λ z. get_or sums k (pos 0) +ℤ z) (get_or-zip2 (λ a b. a *ℤ b) xs ys k (pos 0) (pos 0) (pos 0) (omega (arith, long, l)) l ∙ ap (λ v. get_or xs k (pos 0) *ℤ v) weight)

-- lanes that were put into their places
pub lanes-put : {X : Type 0} (d : X) (sums lanes : List X) (at n k : ℕ) → length lanes ≡ 4 → n ≡ 4 → at + 4 ≤ length sums → k < 4 → get_or (put_mid at n sums (put_chunk 0 (take n (drop at sums)) lanes)) (at + k) d ≡ get_or lanes k d
lanes-put {X} d sums lanes at n k four is free l =
    let mid : List X = take 4 (drop at sums) in
    let left = length-drop at sums in
    let size : length mid ≡ 4 = length-take-le 4 (drop at sums) (omega (arith, left, free)) in
    let whole : put_chunk 0 mid lanes ≡ lanes ++ drop (length lanes) (drop 0 mid) = put_chunk_is 0 mid lanes (omega (arith, four, size)) in
    let front : length (take at sums) ≡ at = length-take-le at sums (omega (arith, free)) in
    rw (is, whole)
    (ap (λ i. get_or (take at sums ++ ((lanes ++ drop (length lanes) (drop 0 mid)) ++ drop 4 (drop at sums))) (i + k) d) (sym front)
    ∙ get_or-append-add (take at sums) ((lanes ++ drop (length lanes) (drop 0 mid)) ++ drop 4 (drop at sums)) k d
    ∙ get_or_append_left (lanes ++ drop (length lanes) (drop 0 mid)) (drop 4 (drop at sums)) d k (omega (arith, length-append lanes (drop (length lanes) (drop 0 mid)), four, l))
    ∙ get_or_append_left lanes (drop (length lanes) (drop 0 mid)) d k (omega (arith, four, l)))

-- a piece that was written among sums
pub mid_before : (at m i : ℕ) (sums new : List ℤ) → at ≤ length sums → i < at → get_or (put_mid at m sums new) i (pos 0) ≡ get_or sums i (pos 0)
mid_before at m i sums new le lt =
    let front : length (take at sums) ≡ at = length-take-le at sums le in
    get_or_append_left (take at sums) (new ++ drop m (drop at sums)) (pos 0) i (omega (arith, front, lt)) ∙ get_or-take at sums i (pos 0) lt

pub mid_at : (at m k : ℕ) (sums new : List ℤ) → at ≤ length sums → k < length new → get_or (put_mid at m sums new) (at + k) (pos 0) ≡ get_or new k (pos 0)
mid_at at m k sums new le lt =
    let front : length (take at sums) ≡ at = length-take-le at sums le in
    ap (λ i. get_or (take at sums ++ (new ++ drop m (drop at sums))) (i + k) (pos 0)) (sym front)
    ∙ get_or-append-add (take at sums) (new ++ drop m (drop at sums)) k (pos 0)
    ∙ get_or_append_left new (drop m (drop at sums)) (pos 0) k lt

pub mid_long : (at m : ℕ) (sums new : List ℤ) → length new ≡ m → at + m ≤ length sums → length (put_mid at m sums new) ≡ length sums
mid_long at m sums new size within =
    let front = length-take-le at sums (omega (arith, within)) in
    omega (arith, size, within, front, length-append (take at sums) (new ++ drop m (drop at sums)), length-append new (drop m (drop at sums)), length-drop at sums, length-drop m (drop at sums))
