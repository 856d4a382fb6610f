-- Samples that are multiples of 65,536, as those of 16-bit sources are.
use Rattle.std.proofs.Common.{◌≡◌, ℕ, ◌+◌, ◌-◌, ◌%◌, ◌<◌, ◌≤◌, Bool, true, false, List, length, drop, take, get_or, refl, arith, ℤ, pos, unsigned_abs, nat_lt, ◌↔◌}
use Rattle.std.proofs.lemmas.Bool.Decides.{nat_tests}
use Rattle.std.proofs.lemmas.List.{get_or-drop, get_or-take, get_or_past, length-take-le}
use Rattle.fx_tap_sums.specs.Pairs.{AreHalves}

-- a sample of a list, of which some first samples are known to be multiples; past these the list ends
taken-sample : (xs : List ℤ) (n i : ℕ) (b : Bool) → nat_lt i n ≡ b → n ≤ length xs → (n ≤ i → length xs ≤ i) → AreHalves (length (take n xs)) (take n xs)
    → unsigned_abs (get_or xs i (pos 0)) % 65536 ≡ 0
taken-sample xs n i true t within over are =
    let inside : i < n = grind (arith, nat_tests) in
    let long = length-take-le n xs within in
    let same = get_or-take n xs i (pos 0) inside in
    rw (← same) (are i (omega (arith, long, inside)))
taken-sample xs n i false t within over are =
    let outside : n ≤ i = grind (arith, nat_tests) in
    rw (get_or_past xs i (pos 0) (over outside)) refl

-- all of the first so many are multiples just where those are that the list has
pub taken-halves : (xs : List ℤ) (n m : ℕ) → n ≤ length xs → n ≤ m → ((i : ℕ) → i < m → n ≤ i → length xs ≤ i)
    → AreHalves (length (take n xs)) (take n xs) ↔ AreHalves m xs
taken-halves xs n m within short over = (
  λ are i lt. taken-sample xs n i (nat_lt i n) refl within (over i lt) are,
  λ are i lt.
      let long = length-take-le n xs within in
      let inside : i < n = omega (arith, long, lt) in
      rw (get_or-take n xs i (pos 0) inside) (are i (omega (arith, inside, short))),
)

next-sample : (xs : List ℤ) (w at count i : ℕ) (b : Bool) → nat_lt i at ≡ b → i < w + (at + count) → (0 < at → AreHalves (w + at) xs) → AreHalves (w + count) (drop at xs)
    → unsigned_abs (get_or xs i (pos 0)) % 65536 ≡ 0
next-sample xs w at count i true t lt before after =
    let inside : i < at = grind (arith, nat_tests) in
    before (omega (arith, inside)) i (omega (arith, inside))
next-sample xs w at count i false t lt before after =
    let outside : at ≤ i = grind (arith, nat_tests) in
    let place : at + (i - at) ≡ i = omega (arith, outside) in
    let here = get_or-drop at xs (i - at) (pos 0) in
    let known = after (i - at) (omega (arith, outside, lt)) in
    rw (here, place) at known

-- those of the sums before a place, and of so many from there on
pub next-halves : (xs : List ℤ) (w at count : ℕ) → (0 < at → AreHalves (w + at) xs) → AreHalves (w + count) (drop at xs) → AreHalves (w + (at + count)) xs
next-halves xs w at count before after = λ i lt. next-sample xs w at count i (nat_lt i at) refl lt before after
