-- Sums of numbers of 16 bits times weights in two parts: high sums, which count 2^14 times, and low ones.
use Rattle.std.proofs.Common.{◌≡◌, ℕ, ◌+◌, ◌-◌, ◌*◌, ◌^◌, ◌<◌, ◌≤◌, List, [], ◌∷◌, length, drop, take, get_or, set, refl, sym, ap, ◌∙◌, arith, ℤ, pos, inl, inr, ◌+ℤ◌, ◌*ℤ◌, sum_by, unsigned_abs}
use Rattle.std.proofs.Math.Nat.{lt_of_mul-lt-mul_right}
use Rattle.std.proofs.lemmas.Bool.{cases_lt}
use Rattle.std.proofs.lemmas.Int.{ints, unsigned_abs-mul}
use Rattle.std.proofs.lemmas.List.{get_or-drop, get_or-set_other, get_or_past, take-take, take_all, take_more}
use Rattle.std.proofs.lemmas.Grind.{get_or-set_at}
use Rattle.std.proofs.lemmas.List.Sums.{sum_by-append, sum_by-cons, sum_by-take-le}
use Rattle.fx_tap_sums.specs.Pairs.{AreCarried, ArePairsOfParts, AreParts, AreWithin, FourFit, IsSplit, IsTable, PairsAdded, PairsFit, joined_halves, pair_product}
use Rattle.fx_tap_sums.specs.Products.{sum_of_products}
use Rattle.fx_tap_sums.proofs.Magnitudes.{added-bound, scaled-bound}
use Rattle.fx_tap_sums.proofs.Numbers.{add-mul, mul-add, mul_assoc}
use Rattle.fx_tap_sums.proofs.PairLanes.{four_back, halves_back, passed_four, passed_halves}
use Rattle.fx_tap_sums.proofs.Writes.{each_more}
use Rattle.fx_tap_sums.proofs.PairSums.{AddingHalves, AddingHalves-bound, AddingHalves-last, AddingHalves-two, Lane, Loaded, at-pair, lane}

-- ---- splits

pub split-maximum : (split : ℕ) → IsSplit split → 2 ^ split ≤ 16384
split-maximum split (inl e) = rw e (omega arith)
split-maximum split (inr e) = rw e (omega arith)

pub split-minimum : (split : ℕ) → IsSplit split → 8192 ≤ 2 ^ split
split-minimum split (inl e) = rw e (omega arith)
split-minimum split (inr e) = rw e (omega arith)

-- ---- joined sums

join-product : (step : ℕ) (x h l : ℤ) → x *ℤ joined_halves step h l ≡ joined_halves step (x *ℤ h) (x *ℤ l)
join-product step x h l = mul-add x (h *ℤ pos step) l ∙ ap (λ z. z +ℤ (x *ℤ l)) (mul_assoc x h (pos step))

join-sum : (step : ℕ) (h l p q : ℤ) → joined_halves step (h +ℤ p) (l +ℤ q) ≡ joined_halves step h l +ℤ joined_halves step p q
join-sum step h l p q = omega (arith, ints, add-mul h p (pos step))

-- the products of the parts of two weights, joined
join-pair : (step : ℕ) (xs ws highs lows : List ℤ) (tap : ℕ) → ((k : ℕ) → get_or ws k (pos 0) ≡ joined_halves step (get_or highs k (pos 0)) (get_or lows k (pos 0)))
    → joined_halves step (pair_product xs tap highs tap) (pair_product xs tap lows tap) ≡ pair_product xs tap ws tap
join-pair step xs ws highs lows tap are =
    let x : ℤ = get_or xs tap (pos 0) in
    let y : ℤ = get_or xs (tap + 1) (pos 0) in
    let first = join-product step x (get_or highs tap (pos 0)) (get_or lows tap (pos 0)) in
    let second = join-product step y (get_or highs (tap + 1) (pos 0)) (get_or lows (tap + 1) (pos 0)) in
    rw (are tap, are (tap + 1), first, second) (join-sum step (x *ℤ get_or highs tap (pos 0)) (x *ℤ get_or lows tap (pos 0)) (y *ℤ get_or highs (tap + 1) (pos 0)) (y *ℤ get_or lows (tap + 1) (pos 0)))

-- how large two products are
pair-bound : (xs ws : List ℤ) (tap : ℕ) → unsigned_abs (get_or xs tap (pos 0)) ≤ 2 ^ 15 → unsigned_abs (get_or xs (tap + 1) (pos 0)) ≤ 2 ^ 15
    → unsigned_abs (pair_product xs tap ws tap) ≤ 2 ^ 15 * unsigned_abs (get_or ws tap (pos 0)) + 2 ^ 15 * unsigned_abs (get_or ws (tap + 1) (pos 0))
pair-bound xs ws tap first second =
    let w : ℤ = get_or ws tap (pos 0) in
    let v : ℤ = get_or ws (tap + 1) (pos 0) in
    let left = scaled-bound (get_or xs tap (pos 0)) w (2 ^ 15) (unsigned_abs w) first (omega arith) in
    let right = scaled-bound (get_or xs (tap + 1) (pos 0)) v (2 ^ 15) (unsigned_abs v) second (omega arith) in
    added-bound (get_or xs tap (pos 0) *ℤ w) (get_or xs (tap + 1) (pos 0) *ℤ v) (2 ^ 15 * unsigned_abs w) (2 ^ 15 * unsigned_abs v) left right

-- ---- magnitudes of the low parts of a interval

one-more : (ws : List ℤ) (m : ℕ) → sum_by unsigned_abs (take (m + 1) ws) ≡ sum_by unsigned_abs (take m ws) + unsigned_abs (get_or ws m (pos 0))
one-more ws m = elim (cases_lt m (length ws)) [
  | inl inside ↦
      let last = sum_by-cons unsigned_abs (get_or ws m (pos 0)) [] in
      rw (take_more ws m (pos 0) inside) (sum_by-append unsigned_abs (take m ws) (get_or ws m (pos 0) ∷ []) ∙ ap (λ n. sum_by unsigned_abs (take m ws) + n) (omega (arith, last)))
  | inr over ↦ rw (take_all (m + 1) ws (omega arith), take_all m ws over, get_or_past ws m (pos 0) over) (omega arith)
]

-- the low parts from a place on, so many taps
abbrev pub span : List ℤ → ℕ → ℕ → ℕ
span lows start taps = sum_by unsigned_abs (take taps (drop start lows))

two-more : (lows : List ℤ) (start taps tap : ℕ) → tap ≡ start + taps → span lows start (taps + 2) ≡ span lows start taps + (unsigned_abs (get_or lows tap (pos 0)) + unsigned_abs (get_or lows (tap + 1) (pos 0)))
two-more lows start taps tap is =
    let rest : List ℤ = drop start lows in
    let one = one-more rest taps in
    let two = one-more rest (taps + 1) in
    let first : get_or rest taps (pos 0) ≡ get_or lows tap (pos 0) = get_or-drop start lows taps (pos 0) ∙ ap (λ i. get_or lows i (pos 0)) (sym is) in
    let second : get_or rest (taps + 1) (pos 0) ≡ get_or lows (tap + 1) (pos 0) = get_or-drop start lows (taps + 1) (pos 0) ∙ ap (λ i. get_or lows i (pos 0)) (omega (arith, is)) in
    let place : taps + 1 + 1 ≡ taps + 2 = omega arith in
    let f : unsigned_abs (get_or rest taps (pos 0)) ≡ unsigned_abs (get_or lows tap (pos 0)) = ap unsigned_abs first in
    let s : unsigned_abs (get_or rest (taps + 1) (pos 0)) ≡ unsigned_abs (get_or lows (tap + 1) (pos 0)) = ap unsigned_abs second in
    let t = rw place at two in
    omega (arith, one, t, f, s)

span-bound : (lows : List ℤ) (start bounded many : ℕ) → bounded ≤ many → span lows start bounded ≤ span lows start many
span-bound lows start bounded many le = rw (take-take bounded many (drop start lows) le) at (sum_by-take-le unsigned_abs (take many (drop start lows)) bounded)

-- ---- four sums in two parts, from every other place on

-- after a carry
pub record Carried (split : ℕ) (halves ws : List ℤ) (base pair : ℕ) (high low : List ℤ) : Type 0 where
  pub high_fit : FourFit high
  pub low_fit : FourFit low
  pub each : (k : ℕ) → k < 4 → AddingHalves (drop (base + 2 * k) halves) ws (2 * pair) (joined_halves (2 ^ split) (get_or high k (pos 0)) (get_or low k (pos 0)))
  pub below : (k : ℕ) → k < 4 → unsigned_abs (get_or low k (pos 0)) ≤ 2 ^ 14

-- since a carry at a pair
pub record AddingParts (split : ℕ) (halves ws low_table : List ℤ) (base start pair : ℕ) (high low : List ℤ) : Type 0 where
  pub high_fit : FourFit high
  pub low_fit : FourFit low
  pub each : (k : ℕ) → k < 4 → AddingHalves (drop (base + 2 * k) halves) ws (2 * pair) (joined_halves (2 ^ split) (get_or high k (pos 0)) (get_or low k (pos 0)))
  pub small : (lows : List ℤ) → length lows ≡ length ws → IsTable lows low_table → (k : ℕ) → k < 4 → unsigned_abs (get_or low k (pos 0)) ≤ 2 ^ 14 + 2 ^ 15 * span lows (2 * start) (2 * (pair - start))

pub AddingParts-first : (split : ℕ) (halves ws low_table : List ℤ) (base start : ℕ) (high low : List ℤ) → Carried split halves ws base start high low → AddingParts split halves ws low_table base start start high low
AddingParts-first split halves ws low_table base start high low c = record {
  high_fit = c.high_fit;
  low_fit = c.low_fit;
  each = c.each;
  small = λ lows same table k l. let below = c.below k l in omega (arith, below);
}

-- how large the joined sums are
pub joined-small : (split : ℕ) (halves ws high_table low_table high low : List ℤ) (interval base start pair : ℕ) → ArePairsOfParts split ws high_table low_table interval → AddingParts split halves ws low_table base start pair high low
    → (k : ℕ) → k < 4 → unsigned_abs (joined_halves (2 ^ split) (get_or high k (pos 0)) (get_or low k (pos 0))) ≤ 2 ^ 31 * (2 ^ split - 1)
joined-small split halves ws high_table low_table high low interval base start pair tables a k l = omega (arith, AddingHalves-bound _ ws _ _ (a.each k l), tables.small)

pub lane-limit : (split : ℕ) (halves ws high_table low_table high low : List ℤ) (interval base pair : ℕ) → ArePairsOfParts split ws high_table low_table interval → Carried split halves ws base pair high low
    → (k : ℕ) → k < 4 → unsigned_abs (joined_halves (2 ^ split) (get_or high k (pos 0)) (get_or low k (pos 0))) ≤ 2 ^ 45
lane-limit split halves ws high_table low_table high low interval base pair tables a k l =
    omega (arith, joined-small split halves ws high_table low_table high low interval base pair pair tables (AddingParts-first split halves ws low_table base pair high low a) k l, split-maximum split tables.is_split)

-- what is needed of a step
pub record Step (split : ℕ) (halves ws high_table low_table x high_weights low_weights : List ℤ) (interval base start pair at : ℕ) : Type 0 where
  pub tables : ArePairsOfParts split ws high_table low_table interval
  pub base_low : base ≤ 9
  pub inside : 2 * pair < length ws
  pub long : length ws + 16 ≤ length halves
  pub place : at ≡ 2 * pair + base
  pub after : start ≤ pair
  pub within : pair < start + interval
  pub x_loaded : Loaded halves x at
  pub high_loaded : Loaded high_table high_weights (8 * pair)
  pub low_loaded : Loaded low_table low_weights (8 * pair)

part-lane : (halves ws x weights table : List ℤ) (base pair at k : ℕ) → k < 4 → base ≤ 9 → 2 * pair < length ws → length ws + 16 ≤ length halves → at ≡ 2 * pair + base → Loaded halves x at → IsTable ws table → Loaded table weights (8 * pair)
    → Lane halves ws x weights base (2 * pair) k
part-lane halves ws x weights table base pair at k l low inside long place x_loaded is_table loaded =
    lane halves ws x weights base (2 * pair) at k l low inside long place x_loaded (at-pair ws table weights pair is_table inside loaded)

low-lane : (split : ℕ) (halves ws high_table low_table x high_weights low_weights : List ℤ) (interval base start pair at : ℕ) (s : Step split halves ws high_table low_table x high_weights low_weights interval base start pair at) (lows : List ℤ) → length lows ≡ length ws → IsTable lows low_table → (k : ℕ) → k < 4
    → Lane halves lows x low_weights base (2 * pair) k
low-lane split halves ws high_table low_table x high_weights low_weights interval base start pair at s lows same is_table k l =
    part-lane halves lows x low_weights low_table base pair at k l s.base_low (omega (arith, s.inside, same)) (omega (arith, s.long, same)) s.place s.x_loaded is_table s.low_loaded

high-lane : (split : ℕ) (halves ws high_table low_table x high_weights low_weights : List ℤ) (interval base start pair at : ℕ) (s : Step split halves ws high_table low_table x high_weights low_weights interval base start pair at) → (k : ℕ) → k < 4
    → Lane halves s.tables.highs x high_weights base (2 * pair) k
high-lane split halves ws high_table low_table x high_weights low_weights interval base start pair at s k l =
    part-lane halves s.tables.highs x high_weights high_table base pair at k l s.base_low (omega (arith, s.inside, s.tables.parts.high_count)) (omega (arith, s.long, s.tables.parts.high_count)) s.place s.x_loaded s.tables.high_table s.high_loaded

-- how large a low sum is after a step
low-sum : (split : ℕ) (halves ws high_table low_table x high_weights low_weights high low : List ℤ) (interval base start pair at : ℕ) (s : Step split halves ws high_table low_table x high_weights low_weights interval base start pair at)
    → AddingParts split halves ws low_table base start pair high low → (lows : List ℤ) → length lows ≡ length ws → IsTable lows low_table → (k : ℕ) → k < 4
    → unsigned_abs (get_or low k (pos 0) +ℤ pair_product x (2 * k) low_weights (2 * k)) ≤ 2 ^ 14 + 2 ^ 15 * span lows (2 * start) (2 * (pair - start) + 2)
low-sum split halves ws high_table low_table x high_weights low_weights high low interval base start pair at s a lows same is_table k l =
    let n = low-lane split halves ws high_table low_table x high_weights low_weights interval base start pair at s lows same is_table k l in
    let product = pair-bound (drop (base + 2 * k) halves) lows (2 * pair) n.first n.second in
    let before = a.small lows same is_table k l in
    let place : 2 * pair ≡ 2 * start + 2 * (pair - start) = omega (arith, s.after) in
    rw n.product (omega (arith, added-bound (get_or low k (pos 0)) (pair_product (drop (base + 2 * k) halves) (2 * pair) lows (2 * pair)) _ _ before product, two-more lows (2 * start) (2 * (pair - start)) (2 * pair) place))

low-bound : (split : ℕ) (halves ws high_table low_table x high_weights low_weights high low : List ℤ) (interval base start pair at : ℕ) (s : Step split halves ws high_table low_table x high_weights low_weights interval base start pair at)
    → AddingParts split halves ws low_table base start pair high low → (k : ℕ) → k < 4 → unsigned_abs (get_or low k (pos 0) +ℤ pair_product x (2 * k) low_weights (2 * k)) < 2 ^ 31
low-bound split halves ws high_table low_table x high_weights low_weights high low interval base start pair at s a k l =
    let t = s.tables in
    let sum = low-sum split halves ws high_table low_table x high_weights low_weights high low interval base start pair at s a t.lows t.parts.low_count t.low_table k l in
    let part = span-bound t.lows (2 * start) (2 * (pair - start) + 2) (2 * interval) (omega (arith, s.after, s.within)) in
    omega (arith, sum, part, t.carried (2 * start))

pub low-fit : (split : ℕ) (halves ws high_table low_table x high_weights low_weights high low : List ℤ) (interval base start pair at : ℕ) (s : Step split halves ws high_table low_table x high_weights low_weights interval base start pair at)
    → AddingParts split halves ws low_table base start pair high low → PairsFit low (passed_halves x) (passed_halves low_weights)
low-fit split halves ws high_table low_table x high_weights low_weights high low interval base start pair at s a = rw (halves_back x s.x_loaded.fit, halves_back low_weights s.low_loaded.fit) (record {
  sums_fit = a.low_fit;
  are_halves = s.x_loaded.fit;
  weights_fit = s.low_loaded.fit;
  product = λ k l.
      let t = s.tables in
      let n = low-lane split halves ws high_table low_table x high_weights low_weights interval base start pair at s t.lows t.parts.low_count t.low_table k l in
      rw n.product (omega (arith, pair-bound (drop (base + 2 * k) halves) t.lows (2 * pair) n.first n.second, t.parts.low (2 * pair), t.parts.low (2 * pair + 1)));
  sum = low-bound split halves ws high_table low_table x high_weights low_weights high low interval base start pair at s a;
})

-- the joined sum after a step
joined-next : (split : ℕ) (halves ws high_table low_table x high_weights low_weights high low : List ℤ) (interval base start pair at : ℕ) (s : Step split halves ws high_table low_table x high_weights low_weights interval base start pair at)
    → AddingParts split halves ws low_table base start pair high low → (k : ℕ) → k < 4
    → AddingHalves (drop (base + 2 * k) halves) ws (2 * pair + 2) (joined_halves (2 ^ split) (get_or high k (pos 0) +ℤ pair_product x (2 * k) high_weights (2 * k)) (get_or low k (pos 0) +ℤ pair_product x (2 * k) low_weights (2 * k)))
joined-next split halves ws high_table low_table x high_weights low_weights high low interval base start pair at s a k l =
    let t = s.tables in
    let xs : List ℤ = drop (base + 2 * k) halves in
    let n = low-lane split halves ws high_table low_table x high_weights low_weights interval base start pair at s t.lows t.parts.low_count t.low_table k l in
    let m = high-lane split halves ws high_table low_table x high_weights low_weights interval base start pair at s k l in
    let both = join-sum (2 ^ split) (get_or high k (pos 0)) (get_or low k (pos 0)) (pair_product xs (2 * pair) t.highs (2 * pair)) (pair_product xs (2 * pair) t.lows (2 * pair)) in
    rw (n.product, m.product, both, join-pair (2 ^ split) xs ws t.highs t.lows (2 * pair) t.parts.join) (AddingHalves-two xs ws (2 * pair) _ n.inside n.first n.second (a.each k l))

high-bound : (split : ℕ) (h l : ℤ) → IsSplit split → unsigned_abs (joined_halves (2 ^ split) h l) ≤ 2 ^ 31 * (2 ^ split - 1) → unsigned_abs l < 2 ^ 31 → unsigned_abs h < 2 ^ 31
high-bound split h l is whole small =
    let below : unsigned_abs h * 2 ^ split < 2 ^ 31 * 2 ^ split = omega (arith, ints, unsigned_abs-mul h (pos (2 ^ split)), whole, small, split-minimum split is) in
    lt_of_mul-lt-mul_right (2 ^ split) below

pub high-fit : (split : ℕ) (halves ws high_table low_table x high_weights low_weights high low : List ℤ) (interval base start pair at : ℕ) (s : Step split halves ws high_table low_table x high_weights low_weights interval base start pair at)
    → AddingParts split halves ws low_table base start pair high low → PairsFit high (passed_halves x) (passed_halves high_weights)
high-fit split halves ws high_table low_table x high_weights low_weights high low interval base start pair at s a = rw (halves_back x s.x_loaded.fit, halves_back high_weights s.high_loaded.fit) (record {
  sums_fit = a.high_fit;
  are_halves = s.x_loaded.fit;
  weights_fit = s.high_loaded.fit;
  product = λ k l.
      let t = s.tables in
      let n = high-lane split halves ws high_table low_table x high_weights low_weights interval base start pair at s k l in
      let product = pair-bound (drop (base + 2 * k) halves) t.highs (2 * pair) n.first n.second in
      let first = t.parts.high (2 * pair) in
      let second = t.parts.high (2 * pair + 1) in
      rw n.product (omega (arith, product, first, second));
  sum = λ k l.
      let next = joined-next split halves ws high_table low_table x high_weights low_weights high low interval base start pair at s a k l in
      let small = low-bound split halves ws high_table low_table x high_weights low_weights high low interval base start pair at s a k l in
      high-bound split (get_or high k (pos 0) +ℤ pair_product x (2 * k) high_weights (2 * k)) (get_or low k (pos 0) +ℤ pair_product x (2 * k) low_weights (2 * k)) s.tables.is_split (omega (arith, AddingHalves-bound _ ws _ _ next, s.tables.small)) small;
})

pub AddingParts-next : (split : ℕ) (halves ws high_table low_table x high_weights low_weights high low next_high next_low : List ℤ) (interval base start pair at : ℕ) (s : Step split halves ws high_table low_table x high_weights low_weights interval base start pair at)
    → AddingParts split halves ws low_table base start pair high low → PairsAdded high (passed_halves x) (passed_halves high_weights) next_high → PairsAdded low (passed_halves x) (passed_halves low_weights) next_low
    → AddingParts split halves ws low_table base start (pair + 1) (passed_four next_high) (passed_four next_low)
AddingParts-next split halves ws high_table low_table x high_weights low_weights high low next_high next_low interval base start pair at s a high_passed low_passed =
    let high_added = rw (halves_back x s.x_loaded.fit, halves_back high_weights s.high_loaded.fit) at high_passed in
    let low_added = rw (halves_back x s.x_loaded.fit, halves_back low_weights s.low_loaded.fit) at low_passed in
    let two : 2 * (pair + 1) ≡ 2 * pair + 2 = omega arith in
    let far : 2 * (pair + 1 - start) ≡ 2 * (pair - start) + 2 = omega (arith, s.after) in
    rw (four_back next_high high_added.fit, four_back next_low low_added.fit) (record {
      high_fit = high_added.fit;
      low_fit = low_added.fit;
      each = λ k l. rw (two, high_added.value k l, low_added.value k l) (joined-next split halves ws high_table low_table x high_weights low_weights high low interval base start pair at s a k l);
      small = λ lows same is_table k l. rw (far, low_added.value k l) (low-sum split halves ws high_table low_table x high_weights low_weights high low interval base start pair at s a lows same is_table k l);
    })

pub Carried-next : (split : ℕ) (halves ws low_table high low next_high next_low : List ℤ) (base start pair end : ℕ) → pair ≡ end → AddingParts split halves ws low_table base start pair high low → FourFit next_high → FourFit next_low
    → ((k : ℕ) → k < 4 → joined_halves (2 ^ split) (get_or next_high k (pos 0)) (get_or next_low k (pos 0)) ≡ joined_halves (2 ^ split) (get_or high k (pos 0)) (get_or low k (pos 0))) → ((k : ℕ) → k < 4 → unsigned_abs (get_or next_low k (pos 0)) ≤ 2 ^ 14)
    → Carried split halves ws base end (passed_four next_high) (passed_four next_low)
Carried-next split halves ws low_table high low next_high next_low base start pair end is a high_fit low_fit same below = rw (four_back next_high high_fit, four_back next_low low_fit) (record {
  high_fit = high_fit;
  low_fit = low_fit;
  each = λ k l. rw (same k l, ← is) (a.each k l);
  below = below;
})

-- the sum of each lane, scaled
pub parts-sum-at : (split : ℕ) (halves ws high low zs : List ℤ) (base pair : ℕ) → length ws ≤ 2 * pair → Carried split halves ws base pair high low
    → ((k : ℕ) → k < 4 → get_or zs k (pos 0) ≡ joined_halves (2 ^ split) (get_or high k (pos 0)) (get_or low k (pos 0)) *ℤ pos 65536)
    → (k : ℕ) → k < 4 → get_or zs k (pos 0) ≡ sum_of_products (drop (base + 2 * k) halves) ws *ℤ pos 65536
parts-sum-at split halves ws high low zs base pair over a are k l = are k l ∙ ap (λ s. s *ℤ pos 65536) (AddingHalves-last (drop (base + 2 * k) halves) ws (2 * pair) _ over (a.each k l))

-- ---- parts of weights

pub join-more : (split : ℕ) (ws high low : List ℤ) (i : ℕ) (h l : ℤ) → i < length high → i < length low → get_or ws i (pos 0) ≡ joined_halves (2 ^ split) h l
    → ((k : ℕ) → k < i → get_or ws k (pos 0) ≡ joined_halves (2 ^ split) (get_or high k (pos 0)) (get_or low k (pos 0)))
    → (k : ℕ) → k < i + 1 → get_or ws k (pos 0) ≡ joined_halves (2 ^ split) (get_or (set high i h) k (pos 0)) (get_or (set low i l) k (pos 0))
join-more split ws high low i h l in_high in_low now before =
    each_more (pos 0) (λ k v. get_or ws k (pos 0) ≡ joined_halves (2 ^ split) v (get_or (set low i l) k (pos 0))) high i h in_high (rw (get_or-set_at low i i l (pos 0) refl in_low) now) (λ k m.
    let other : (k ≡ i → ⊥) = omega (arith, m) in
    rw (get_or-set_other low i k l (pos 0) other) (before k m))

-- two low parts, wherever they stand
two-lows : (split : ℕ) (ws highs lows : List ℤ) → AreParts (2 ^ split) ws highs lows → AreCarried 2 lows
two-lows split ws highs lows parts place =
    let here = rw (← get_or-drop place lows 0 (pos 0)) at (parts.low (place + 0)) in
    let next = rw (← get_or-drop place lows 1 (pos 0)) at (parts.low (place + 1)) in
    omega (arith, one-more (drop place lows) 0, one-more (drop place lows) 1, here, next)

-- at least one pair goes before a carry
pub interval-of-parts : (split : ℕ) (ws highs lows : List ℤ) (interval : ℕ) → AreParts (2 ^ split) ws highs lows → (interval < 128 → AreCarried (2 * (interval + 1)) lows → ⊥) → 1 ≤ interval
interval-of-parts split ws highs lows interval parts maximal = elim (cases_lt 0 interval) [
  | inl some ↦ omega arith
  | inr none ↦ absurd (maximal (omega arith) (let two : 2 * (interval + 1) ≡ 2 = omega arith in rw two (two-lows split ws highs lows parts)))
]

pub tables-of-parts : (split : ℕ) (ws highs lows high low : List ℤ) (interval : ℕ) → IsSplit split → AreWithin (32767 * 2 ^ split) (65536 * (2 ^ split - 1)) ws → AreParts (2 ^ split) ws highs lows → 1 ≤ interval → AreCarried (2 * interval) lows → IsTable highs high → IsTable lows low → ArePairsOfParts split ws high low interval
tables-of-parts split ws highs lows high low interval is small parts some carried high_table low_table = record {
  is_split = is;
  small = small.all;
  highs = highs;
  lows = lows;
  parts = parts;
  high_table = high_table;
  low_table = low_table;
  some = some;
  carried = carried;
}
