-- The table of the leaves of a transform: place by place, and of parts of a transform.
use Rattle.std.proofs.Common.{◌≡◌, ◌+◌, ◌-◌, ◌*◌, ◌/◌, ◌%◌, ◌^◌, ◌<◌, ◌≤◌, ◌∙◌, ◌++◌, ap, refl, ℕ, zero, suc, ℤ, pos, neg_ℤ, ◌*ℤ◌, List, length, get_or, take, drop, arith}
use Rattle.std.proofs.Math.Nat.{pow-suc}
use Rattle.std.proofs.lemmas.List.{length-drop, length-take-le, get_or-take, get_or-drop}
use Rattle.fx_tap_sums.specs.Leaves.{AreLeaves}
use Rattle.fx_tap_sums.specs.Multiplying.{MultipliesBy}
use Rattle.fx_tap_sums.specs.Quarters.{gather_first_at, gather_fourth_at, gather_second_at, gather_third_at, levels_at, spread_first_at, spread_fourth_at, spread_second_at, spread_third_at}
use Rattle.fx_tap_sums.specs.Residues.{AreCongruent, AreSame, Same}
use Rattle.fx_tap_sums.specs.Transform.{AreRoots, root_at}
use Rattle.fx_tap_sums.proofs.Quarters.{EachLong, Quartered, Quarters, multiplies_by, product_of_quarters, quartered}

-- ---- place by place

-- what the number at a place is, in terms of the spectrum
pub record IsLeafNumber (p : ℕ) (roots : List ℕ) (last : ℕ) (spectrum : List ℕ) (i v : ℕ) : Type 0 where
  pub less : v < p
  pub weight : (leaf k : ℕ) → k < 4 → i ≡ 8 * leaf + k → v ≡ get_or spectrum (4 * leaf + k) 0
  pub first : (pair k : ℕ) → k < 4 → i ≡ 16 * pair + 4 + k → Same (pos p) (pos v) (neg_ℤ (root_at roots (last - pair)) *ℤ pos (get_or spectrum (8 * pair + k) 0))
  pub second : (pair k : ℕ) → k < 4 → i ≡ 16 * pair + 12 + k → Same (pos p) (pos v) (root_at roots (last - pair) *ℤ pos (get_or spectrum (8 * pair + 4 + k) 0))

pub number_of_first : (p : ℕ) (roots : List ℕ) (last : ℕ) (f : List ℕ) (pair k v : ℕ) → k < 4 → v < p → v ≡ get_or f (8 * pair + k) 0 → IsLeafNumber p roots last f (16 * pair + k) v
number_of_first p roots last f pair k v l less is = record {
  less = less;
  weight = λ leaf j m at. let e : 4 * leaf + j ≡ 8 * pair + k = omega arith in rw e is;
  first = λ other j m at. absurd (omega arith);
  second = λ other j m at. absurd (omega arith);
}

pub number_of_first_wrapped : (p : ℕ) (roots : List ℕ) (last : ℕ) (f : List ℕ) (pair k v : ℕ) → k < 4 → v < p →
    Same (pos p) (pos v) (neg_ℤ (root_at roots (last - pair)) *ℤ pos (get_or f (8 * pair + k) 0)) → IsLeafNumber p roots last f (16 * pair + 4 + k) v
number_of_first_wrapped p roots last f pair k v l less is = record {
  less = less;
  weight = λ leaf j m at. absurd (omega arith);
  first = λ other j m at. let e : other ≡ pair = omega arith in let d : j ≡ k = omega arith in rw (e, d) is;
  second = λ other j m at. absurd (omega arith);
}

pub number_of_second : (p : ℕ) (roots : List ℕ) (last : ℕ) (f : List ℕ) (pair k v : ℕ) → k < 4 → v < p → v ≡ get_or f (8 * pair + 4 + k) 0 → IsLeafNumber p roots last f (16 * pair + 8 + k) v
number_of_second p roots last f pair k v l less is = record {
  less = less;
  weight = λ leaf j m at. let e : 4 * leaf + j ≡ 8 * pair + 4 + k = omega arith in rw e is;
  first = λ other j m at. absurd (omega arith);
  second = λ other j m at. absurd (omega arith);
}

pub number_of_second_wrapped : (p : ℕ) (roots : List ℕ) (last : ℕ) (f : List ℕ) (pair k v : ℕ) → k < 4 → v < p →
    Same (pos p) (pos v) (root_at roots (last - pair) *ℤ pos (get_or f (8 * pair + 4 + k) 0)) → IsLeafNumber p roots last f (16 * pair + 12 + k) v
number_of_second_wrapped p roots last f pair k v l less is = record {
  less = less;
  weight = λ leaf j m at. absurd (omega arith);
  first = λ other j m at. absurd (omega arith);
  second = λ other j m at. let e : other ≡ pair = omega arith in let d : j ≡ k = omega arith in rw (e, d) is;
}

-- as many roots from a place of the table on as there are pairs of leaves, n numbers in all, are inside of the table
pub roots_inside : (n place roots : ℕ) → n % 8 ≡ 0 → (place + 1) * n ≤ 8 * roots → n / 8 * (place + 1) ≤ roots
roots_inside n place roots groups bound =
    let whole : n ≡ 8 * (n / 8) = omega (arith, groups) in
    let all : (place + 1) * n ≡ (place + 1) * (8 * (n / 8)) = ap (λ k. (place + 1) * k) whole in
    let is : (place + 1) * (8 * (n / 8)) ≡ 8 * (n / 8 * (place + 1)) = omega arith in
    omega (arith, all, is, bound)

-- all places together
pub leaves_are : (p : ℕ) (roots : List ℕ) (last n : ℕ) (f g : List ℕ) → length f ≡ 8 * n → length g ≡ 2 * length f → ((i : ℕ) → i < 16 * n → IsLeafNumber p roots last f i (get_or g i 0)) → AreLeaves p roots last f g
leaves_are p roots last n f g groups long is = record {
  long = long;
  weight = weight;
  first = λ pair k below l.
      let e : 8 * (2 * pair) + k ≡ 16 * pair + k = omega arith in
      let d : 4 * (2 * pair) + k ≡ 8 * pair + k = omega arith in
      let here : get_or g (16 * pair + k) 0 ≡ get_or f (8 * pair + k) 0 = rw (e, d) at (weight (2 * pair) k (omega arith) l) in
      rw here ((is (16 * pair + 4 + k) (omega arith)).first pair k l refl);
  second = λ pair k below l.
      let e : 8 * (2 * pair + 1) + k ≡ 16 * pair + 8 + k = omega arith in
      let d : 4 * (2 * pair + 1) + k ≡ 8 * pair + 4 + k = omega arith in
      let here : get_or g (16 * pair + 8 + k) 0 ≡ get_or f (8 * pair + 4 + k) 0 = rw (e, d) at (weight (2 * pair + 1) k (omega arith) l) in
      rw here ((is (16 * pair + 12 + k) (omega arith)).second pair k l refl);
}
  where
    weight : (leaf k : ℕ) → 4 * leaf < length f → k < 4 → get_or g (8 * leaf + k) 0 ≡ get_or f (4 * leaf + k) 0
    weight leaf k below l = (is (8 * leaf + k) (omega arith)).weight leaf k l refl

-- ---- parts

pub leaves_taken : (p : ℕ) (roots : List ℕ) (last m pairs : ℕ) (f g : List ℕ) → m ≡ 8 * pairs → m ≤ length f → AreLeaves p roots last f g → AreLeaves p roots last (take m f) (take (2 * m) g)
leaves_taken p roots last m pairs f g whole le are =
    let long = are.long in
    let f_long = length-take-le m f le in
    let g_long = length-take-le (2 * m) g (omega arith) in
    record {
      long = omega arith;
      weight = λ leaf k below l.
          let in_f : 4 * leaf + k < m = omega arith in
          let in_g : 8 * leaf + k < 2 * m = omega arith in
          rw (get_or-take m f (4 * leaf + k) 0 in_f, get_or-take (2 * m) g (8 * leaf + k) 0 in_g) (are.weight leaf k (omega arith) l);
      first = λ pair k below l.
          let from : 16 * pair + k < 2 * m = omega arith in
          let to : 16 * pair + 4 + k < 2 * m = omega arith in
          rw (get_or-take (2 * m) g (16 * pair + k) 0 from, get_or-take (2 * m) g (16 * pair + 4 + k) 0 to) (are.first pair k (omega arith) l);
      second = λ pair k below l.
          let from : 16 * pair + 8 + k < 2 * m = omega arith in
          let to : 16 * pair + 12 + k < 2 * m = omega arith in
          rw (get_or-take (2 * m) g (16 * pair + 8 + k) 0 from, get_or-take (2 * m) g (16 * pair + 12 + k) 0 to) (are.second pair k (omega arith) l);
    }

pub leaves_dropped : (p : ℕ) (roots : List ℕ) (last m pairs : ℕ) (f g : List ℕ) → m ≡ 8 * pairs → AreLeaves p roots last f g → AreLeaves p roots (last - pairs) (drop m f) (drop (2 * m) g)
leaves_dropped p roots last m pairs f g whole are =
    let long = are.long in
    let f_long = length-drop m f in
    let g_long = length-drop (2 * m) g in
    record {
      long = omega arith;
      weight = λ leaf k below l.
          let of_f : 4 * (2 * pairs + leaf) + k ≡ m + (4 * leaf + k) = omega arith in
          let of_g : 8 * (2 * pairs + leaf) + k ≡ 2 * m + (8 * leaf + k) = omega arith in
          rw (get_or-drop m f (4 * leaf + k) 0, get_or-drop (2 * m) g (8 * leaf + k) 0, ← of_f, ← of_g) (are.weight (2 * pairs + leaf) k (omega arith) l);
      first = λ pair k below l.
          let root : last - pairs - pair ≡ last - (pairs + pair) = omega arith in
          let from : 2 * m + (16 * pair + k) ≡ 16 * (pairs + pair) + k = omega arith in
          let to : 2 * m + (16 * pair + 4 + k) ≡ 16 * (pairs + pair) + 4 + k = omega arith in
          rw (root, get_or-drop (2 * m) g (16 * pair + k) 0, get_or-drop (2 * m) g (16 * pair + 4 + k) 0, from, to) (are.first (pairs + pair) k (omega arith) l);
      second = λ pair k below l.
          let root : last - pairs - pair ≡ last - (pairs + pair) = omega arith in
          let from : 2 * m + (16 * pair + 8 + k) ≡ 16 * (pairs + pair) + 8 + k = omega arith in
          let to : 2 * m + (16 * pair + 12 + k) ≡ 16 * (pairs + pair) + 12 + k = omega arith in
          rw (root, get_or-drop (2 * m) g (16 * pair + 8 + k) 0, get_or-drop (2 * m) g (16 * pair + 12 + k) 0, from, to) (are.second (pairs + pair) k (omega arith) l);
    }

-- the same of quarters, by pairs of leaves
pub leaves_of_quarters : (p : ℕ) (roots : List ℕ) (last m q both one_part pairs : ℕ) (f g front back one two three four : List ℕ) → length f ≡ 2 * m → m ≡ 2 * q → q ≡ 8 * pairs → both ≡ 2 * m → one_part ≡ 2 * q →
    Quarters both one_part g front back one two three four → AreLeaves p roots last f g →
    AreLeaves p roots (last - 3 * pairs) (drop q (drop m f)) four × (AreLeaves p roots (last - 2 * pairs) (take q (drop m f)) three × (AreLeaves p roots (last - 1 * pairs) (drop q (take m f)) two × AreLeaves p roots (last - 0 * pairs) (take q (take m f)) one))
leaves_of_quarters p roots last m q both one_part pairs f g front back one two three four long twice whole both_is part_is of are =
    let f_front = length-take-le m f (omega arith) in
    let f_back = length-drop m f in
    let low : AreLeaves p roots last (take m f) front = rw (of.front, both_is) (leaves_taken p roots last m (2 * pairs) f g (omega arith) (omega arith) are) in
    let high : AreLeaves p roots (last - 2 * pairs) (drop m f) back = rw (of.back, both_is) (leaves_dropped p roots last m (2 * pairs) f g (omega arith) are) in
    let fourth_last : last - 3 * pairs ≡ last - 2 * pairs - pairs = omega arith in
    let second_last : last - 1 * pairs ≡ last - pairs = omega arith in
    let first_last : last - 0 * pairs ≡ last = omega arith in (
      rw (of.fourth, part_is, fourth_last) (leaves_dropped p roots (last - 2 * pairs) q pairs (drop m f) back whole high),
      (
        rw (of.third, part_is) (leaves_taken p roots (last - 2 * pairs) q pairs (drop m f) back whole (omega arith) high),
        (rw (of.second, part_is, second_last) (leaves_dropped p roots last q pairs (take m f) front whole low), rw (of.first, part_is, first_last) (leaves_taken p roots last q pairs (take m f) front whole (omega arith) low)),
      ),
    )

-- ---- two leaves

pub first_weights : (p : ℕ) (roots : List ℕ) (last : ℕ) (f g : List ℕ) (h : List ℤ) → 4 ≤ length f → AreLeaves p roots last f g → AreSame p (take 4 f) h → (k : ℕ) → k < 4 → Same (pos p) (pos (get_or g (0 + k) 0)) (get_or h k (pos 0))
first_weights p roots last f g h long are same k l =
    let size = length-take-le 4 f long in
    let place : 0 + k ≡ k = omega arith in
    rw (are.weight 0 k (omega arith) l, place, ← get_or-take 4 f k 0 l) (same k (omega arith))

pub second_weights : (p : ℕ) (roots : List ℕ) (last : ℕ) (f g : List ℕ) (h : List ℤ) → 8 ≤ length f → AreLeaves p roots last f g → AreSame p (drop 4 f) h → (k : ℕ) → k < 4 → Same (pos p) (pos (get_or g (8 + k) 0)) (get_or h k (pos 0))
second_weights p roots last f g h long are same k l =
    let size = length-drop 4 f in
    rw (are.weight 1 k (omega arith) l, ← get_or-drop 4 f k 0) (same k (omega arith))

pub first_wrapped : (p : ℕ) (roots : List ℕ) (last root : ℕ) (f g : List ℕ) → get_or roots last 0 ≡ root → 0 < length f → AreLeaves p roots last f g →
    (k : ℕ) → k < 4 → Same (pos p) (pos (get_or g (0 + 4 + k) 0)) (neg_ℤ (pos root) *ℤ pos (get_or g (0 + k) 0))
first_wrapped p roots last root f g is some are k l =
    let place : last - 0 ≡ last = omega arith in
    rw (← is) (rw place at (are.first 0 k (omega arith) l))

pub second_wrapped : (p : ℕ) (roots : List ℕ) (last root : ℕ) (f g : List ℕ) → get_or roots last 0 ≡ root → 0 < length f → AreLeaves p roots last f g →
    (k : ℕ) → k < 4 → Same (pos p) (pos (get_or g (8 + 4 + k) 0)) (pos root *ℤ pos (get_or g (8 + k) 0))
second_wrapped p roots last root f g is some are k l =
    let place : last - 0 ≡ last = omega arith in
    rw (← is) (rw place at (are.second 0 k (omega arith) l))

-- ---- quarters of 2^levels times four numbers

-- where the roots of a quarter end, at the place of its own root
last_by_width : (w place back next : ℕ) → back ≤ 3 → next + back ≡ 4 * place + 3 → 4 * w * (place + 1) - 1 - back * w ≡ w * (next + 1) - 1
last_by_width w place zero next le is = let e : next ≡ 4 * place + 3 = omega arith in rw e (omega arith)
last_by_width w place (suc zero) next le is = let e : next ≡ 4 * place + 2 = omega arith in rw e (omega arith)
last_by_width w place (suc (suc zero)) next le is = let e : next ≡ 4 * place + 1 = omega arith in rw e (omega arith)
last_by_width w place (suc (suc (suc zero))) next le is = let e : next ≡ 4 * place = omega arith in rw e (omega arith)
last_by_width w place (suc (suc (suc (suc k)))) next le is = absurd (omega arith)

last_of_quarter : (levels place back next : ℕ) → 3 ≤ levels → back ≤ 3 → next + back ≡ 4 * place + 3 → 2 ^ (levels - 1) * (place + 1) - 1 - back * 2 ^ (levels - 3) ≡ 2 ^ (levels - 2 - 1) * (next + 1) - 1
last_of_quarter levels place back next some le is =
    let e : levels - 1 ≡ suc (suc (levels - 3)) = omega arith in
    let first = pow-suc 2 (levels - 3) in
    let second = pow-suc 2 (suc (levels - 3)) in
    let power : 2 ^ (levels - 1) ≡ 4 * 2 ^ (levels - 3) = rw e (omega (arith, first, second)) in
    let narrow : levels - 2 - 1 ≡ levels - 3 = omega arith in
    rw (power, narrow) (last_by_width (2 ^ (levels - 3)) place back next le is)

pub leaves_of_levels : (p levels n place : ℕ) (roots f g front back one two three four : List ℕ) → 3 ≤ levels → length f ≡ n → Quartered levels n → Quarters (2 * (n / 2)) (n / 2) g front back one two three four →
    AreLeaves p roots (2 ^ (levels - 1) * (place + 1) - 1) f g →
    AreLeaves p roots (2 ^ (levels - 2 - 1) * (2 * (2 * place) + 1) - 1) (drop (n / 2 / 2) (drop (n / 2) f)) four
    × (AreLeaves p roots (2 ^ (levels - 2 - 1) * (2 * (2 * place) + 1 + 1) - 1) (take (n / 2 / 2) (drop (n / 2) f)) three
    × (AreLeaves p roots (2 ^ (levels - 2 - 1) * (2 * (2 * place + 1) + 1) - 1) (drop (n / 2 / 2) (take (n / 2) f)) two
    × AreLeaves p roots (2 ^ (levels - 2 - 1) * (2 * (2 * place + 1) + 1 + 1) - 1) (take (n / 2 / 2) (take (n / 2) f)) one))
leaves_of_levels p levels n place roots f g front back one two three four some long sizes of are =
    let last : ℕ = 2 ^ (levels - 1) * (place + 1) - 1 in
    let pairs : ℕ = 2 ^ (levels - 3) in
    let quarter = sizes.second.twice in
    let e : levels - 2 ≡ suc (levels - 3) = omega arith in
    let power : n / 2 / 2 ≡ 4 * 2 ^ suc (levels - 3) = rw (← e) sizes.second.power in
    let double = pow-suc 2 (levels - 3) in
    let whole : n / 2 / 2 ≡ 8 * pairs = omega (arith, power, double) in
    let parts = leaves_of_quarters p roots last (n / 2) (n / 2 / 2) (2 * (n / 2)) (n / 2) pairs f g front back one two three four (omega (arith, long, sizes.first.twice)) quarter whole refl quarter of are in
    let last4 : last - 3 * pairs ≡ 2 ^ (levels - 2 - 1) * (2 * (2 * place) + 1) - 1 = last_of_quarter levels place 3 (2 * (2 * place)) some (omega arith) (omega arith) in
    let last3 : last - 2 * pairs ≡ 2 ^ (levels - 2 - 1) * (2 * (2 * place) + 1 + 1) - 1 = last_of_quarter levels place 2 (2 * (2 * place) + 1) some (omega arith) (omega arith) in
    let last2 : last - 1 * pairs ≡ 2 ^ (levels - 2 - 1) * (2 * (2 * place + 1) + 1) - 1 = last_of_quarter levels place 1 (2 * (2 * place + 1)) some (omega arith) (omega arith) in
    let last1 : last - 0 * pairs ≡ 2 ^ (levels - 2 - 1) * (2 * (2 * place + 1) + 1 + 1) - 1 = last_of_quarter levels place 0 (2 * (2 * place + 1) + 1) some (omega arith) (omega arith) in
    (rw last4 at parts.0, (rw last3 at parts.1.0, (rw last2 at parts.1.1.0, rw last1 at parts.1.1.1)))

-- two levels of a transform, the products of the quarters by the leaves, and the levels back make the product by all leaves
pub product_by_quarters : (p levels n place : ℕ) (roots inverses leaves v low high one two three four front back l1 l2 l3 l4 x1 x2 x3 x4 u1 u2 u3 u4 w1 w2 w3 w4 : List ℕ) →
    0 < p → n ≡ 4 * 2 ^ levels → 3 ≤ levels → AreRoots p roots inverses → place < 128 → length v ≡ n → length leaves ≡ 2 * n → Quarters (n / 2) (n / 2 / 2) v low high one two three four → Quarters (2 * (n / 2)) (n / 2) leaves front back l1 l2 l3 l4 →
    EachLong (n / 2 / 2) x1 x2 x3 x4 → EachLong (n / 2 / 2) u1 u2 u3 u4 → EachLong (n / 2 / 2) w1 w2 w3 w4 →
    AreCongruent p (length x1) x1 (spread_first_at (levels_at roots place) one two three four) →
    AreCongruent p (length x1) x2 (spread_second_at (levels_at roots place) one two three four) →
    AreCongruent p (length x1) x3 (spread_third_at (levels_at roots place) one two three four) →
    AreCongruent p (length x1) x4 (spread_fourth_at (levels_at roots place) one two three four) →
    MultipliesBy p (levels - 2) roots (2 * (2 * place)) l4 x1 u1 →
    MultipliesBy p (levels - 2) roots (2 * (2 * place) + 1) l3 x2 u2 →
    MultipliesBy p (levels - 2) roots (2 * (2 * place + 1)) l2 x3 u3 →
    MultipliesBy p (levels - 2) roots (2 * (2 * place + 1) + 1) l1 x4 u4 →
    AreCongruent p (length w1) w1 (gather_first_at u1 u2 u3 u4) →
    AreCongruent p (length w1) w2 (gather_second_at (levels_at inverses place) u1 u2 u3 u4) →
    AreCongruent p (length w1) w3 (gather_third_at (levels_at inverses place) u1 u2 u3 u4) →
    AreCongruent p (length w1) w4 (gather_fourth_at (levels_at inverses place) u1 u2 u3 u4) →
    MultipliesBy p levels roots place leaves v ((w1 ++ w2) ++ (w3 ++ w4))
product_by_quarters p levels n place roots inverses leaves v low high one two three four front back l1 l2 l3 l4 x1 x2 x3 x4 u1 u2 u3 u4 w1 w2 w3 w4 some is enough are less v_long leaves_long of_v of_leaves x_long u_long w_long spread1 spread2 spread3 spread4 product1 product2 product3 product4 gather1 gather2 gather3 gather4 = λ s a h f square a_long h_long same transform leaves_are.
    let m : ℕ = n / 2 in
    let q : ℕ = n / 2 / 2 in
    let sizes = quartered levels n is (omega arith) in
    let f_long : length f ≡ n = let long = leaves_are.long in omega arith in
    let parts = leaves_of_levels p levels n place roots f leaves front back l1 l2 l3 l4 enough f_long sizes of_leaves leaves_are in
    let of_f : Quarters m q f (take m f) (drop m f) (take q (take m f)) (drop q (take m f)) (take q (drop m f)) (drop q (drop m f)) = record { front = refl; back = refl; first = refl; second = refl; third = refl; fourth = refl } in
    product_of_quarters p levels n (levels - 1) m (levels - 2) q place roots inverses v low high one two three four f (take m f) (drop m f) (take q (take m f)) (drop q (take m f)) (take q (drop m f)) (drop q (drop m f)) x1 x2 x3 x4 u1 u2 u3 u4 w1 w2 w3 w4
    some sizes.first sizes.second are less v_long of_v of_f x_long u_long w_long spread1 spread2 spread3 spread4
    (multiplies_by p (levels - 2) q (2 * (2 * place)) roots l4 (drop q (drop m f)) x1 u1 x_long.first product1 parts.0)
    (multiplies_by p (levels - 2) q (2 * (2 * place) + 1) roots l3 (take q (drop m f)) x2 u2 x_long.second product2 parts.1.0)
    (multiplies_by p (levels - 2) q (2 * (2 * place + 1)) roots l2 (drop q (take m f)) x3 u3 x_long.third product3 parts.1.1.0)
    (multiplies_by p (levels - 2) q (2 * (2 * place + 1) + 1) roots l1 (take q (take m f)) x4 u4 x_long.fourth product4 parts.1.1.1)
    gather1 gather2 gather3 gather4 s a h square (a_long ∙ v_long) (h_long ∙ v_long) same transform
