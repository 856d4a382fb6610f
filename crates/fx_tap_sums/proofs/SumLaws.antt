-- Sums of samples times gains, one for each channel.
use Rattle.std.proofs.Common.{inl, inr, ℕ, ℤ, pos, ◌+◌, ◌-◌, ◌*◌, ◌^◌, ◌<◌, ◌≤◌, ◌≡◌, ◌+ℤ◌, ◌*ℤ◌, Bool, true, false, List, length, get_or, set, refl, arith, to_z, of_z, neg_ℤ, ◌≤ℤ◌, unsigned_abs, nat_eq}
use Rattle.std.proofs.lemmas.Bool.{cases_lt}
use Rattle.std.proofs.lemmas.Bool.Decides.{nat_tests}
use Rattle.std.proofs.lemmas.Grind.{get_or-set_at}
use Rattle.std.proofs.lemmas.Int.{ints, unsigned_abs-mul, fits_signed_from_abs, to_z-of_z}
use Rattle.std.proofs.lemmas.List.{get_or-set_other}
use Rattle.fx_fixed.specs.declared.gains.TheConstants.{UNIT}
use mir.Syntax.{w128}
use Rattle.fx_tap_sums.proofs.Writes.{each_more}
use Rattle.fx_tap_sums.proofs.Magnitudes.{added-bound, scaled-bound}

-- it fits 128 bits
pub held : (z : ℤ) → unsigned_abs z < 2 ^ 127 → to_z w128 (of_z w128 z) ≡ z
held z h = to_z-of_z w128 z (fits_signed_from_abs w128 z h)

-- what is small in magnitude is within both limits
pub low_of : (z : ℤ) → unsigned_abs z ≤ 2 ^ 126 - 2 ^ 90 → neg_ℤ (pos (2 ^ 126 - 2 ^ 90)) ≤ℤ z
low_of z h = omega (arith, ints)

pub high_of : (z : ℤ) → unsigned_abs z ≤ 2 ^ 126 - 2 ^ 90 → z ≤ℤ pos (2 ^ 126 - 2 ^ 90)
high_of z h = omega (arith, ints)

-- one more channel is added
pub added-more : (old sums : List ℤ) (p : ℕ → ℤ) (i : ℕ) (y : ℤ) → i < length sums → y ≡ get_or old i (pos 0) +ℤ p i
    → ((k : ℕ) → k < i → get_or sums k (pos 0) ≡ get_or old k (pos 0) +ℤ p k) → (k : ℕ) → k < i + 1 → get_or (set sums i y) k (pos 0) ≡ get_or old k (pos 0) +ℤ p k
added-more old sums p i y h e done = each_more (pos 0) (λ k v. v ≡ get_or old k (pos 0) +ℤ p k) sums i y h e done

-- and no sum grew by more than so much
bound-at : (old sums : List ℤ) (i m k : ℕ) (y : ℤ) (b : Bool) → nat_eq k i ≡ b → i < length sums → unsigned_abs y ≤ unsigned_abs (get_or old i (pos 0)) + m
    → ((k : ℕ) → unsigned_abs (get_or sums k (pos 0)) ≤ unsigned_abs (get_or old k (pos 0)) + m) → unsigned_abs (get_or (set sums i y) k (pos 0)) ≤ unsigned_abs (get_or old k (pos 0)) + m
bound-at old sums i m k y true t h e bound =
    let same : k ≡ i = grind (arith, nat_tests) in
    rw (get_or-set_at sums i k y (pos 0) same, same) e
bound-at old sums i m k y false t h e bound =
    let other : (k ≡ i → ⊥) = grind (arith, nat_tests) in
    rw (get_or-set_other sums i k y (pos 0) other) (bound k)

pub bound-at-more : (old sums : List ℤ) (i m : ℕ) (y : ℤ) → i < length sums → unsigned_abs y ≤ unsigned_abs (get_or old i (pos 0)) + m
    → ((k : ℕ) → unsigned_abs (get_or sums k (pos 0)) ≤ unsigned_abs (get_or old k (pos 0)) + m) → (k : ℕ) → unsigned_abs (get_or (set sums i y) k (pos 0)) ≤ unsigned_abs (get_or old k (pos 0)) + m
bound-at-more old sums i m y h e bound k = bound-at old sums i m k y (nat_eq k i) refl h e bound

-- and the sums stay small
pub bound-more : (sum next g x : ℤ) (channels k : ℕ) → unsigned_abs g ≤ UNIT → unsigned_abs x ≤ 2 ^ 31 → (k < channels → next ≡ sum +ℤ (g *ℤ x)) → (channels ≤ k → next ≡ sum)
    → unsigned_abs next ≤ unsigned_abs sum + UNIT * 2 ^ 31
bound-more sum next g x channels k gain sample added left = elim (cases_lt k channels) [
  | inl below ↦ rw (added below) (added-bound sum (g *ℤ x) _ _ (omega arith) (scaled-bound g x UNIT (2 ^ 31) gain sample))
  | inr above ↦ rw (left above) (omega arith)
]

-- a product added in 128 bits
pub plain-sum : (s g x f y : ℤ) → f ≡ g → y ≡ x → unsigned_abs g ≤ 2 ^ 50 → unsigned_abs x ≤ 2 ^ 34 → unsigned_abs s ≤ 2 ^ 101
    → to_z w128 (of_z w128 s) +ℤ to_z w128 (of_z w128 (to_z w128 (of_z w128 f) *ℤ to_z w128 (of_z w128 y))) ≡ s +ℤ (g *ℤ x)
plain-sum s g x f y e d small sample free =
    let product = scaled-bound g x (2 ^ 50) (2 ^ 34) small sample in
    rw (e, d, held s (omega arith), held g (omega arith), held x (omega arith), held (g *ℤ x) (omega (arith, product))) refl

-- silence adds nothing
pub zero-echo : (s g x : ℤ) → pos 0 ≡ x → s ≡ s +ℤ (g *ℤ x)
zero-echo s g x e =
    let none : unsigned_abs (g *ℤ x) ≡ 0 = rw (unsigned_abs-mul g x, ← e) (omega arith) in
    omega (arith, ints)

-- a sum times a gain in 128 bits
pub scaled-sum : (g s f : ℤ) → f ≡ g → unsigned_abs g ≤ 1000 * UNIT → unsigned_abs s ≤ 29 * (UNIT * 2 ^ 31)
    → to_z w128 (of_z w128 (to_z w128 (of_z w128 f) *ℤ to_z w128 (of_z w128 s))) ≡ g *ℤ s
scaled-sum g s f e small bound =
    let maximum = scaled-bound g s _ _ small bound in
    rw (e, held s (omega arith), held g (omega arith), held (g *ℤ s) (omega (arith, maximum))) refl

-- it is one that `round_clip` takes
pub scaled-low : (g s : ℤ) → unsigned_abs g ≤ 1000 * UNIT → unsigned_abs s ≤ 29 * (UNIT * 2 ^ 31) → neg_ℤ (pos (2 ^ 126 - 2 ^ 90)) ≤ℤ (g *ℤ s)
scaled-low g s small bound = low_of (g *ℤ s) (omega (arith, scaled-bound g s _ _ small bound))

pub scaled-high : (g s : ℤ) → unsigned_abs g ≤ 1000 * UNIT → unsigned_abs s ≤ 29 * (UNIT * 2 ^ 31) → (g *ℤ s) ≤ℤ pos (2 ^ 126 - 2 ^ 90)
scaled-high g s small bound = high_of (g *ℤ s) (omega (arith, scaled-bound g s _ _ small bound))

-- a product in 128 bits
pub plain-product : (p x f y : ℤ) → f ≡ p → y ≡ x → unsigned_abs p ≤ 2 ^ 63 → unsigned_abs x ≤ 2 ^ 31
    → to_z w128 (of_z w128 (to_z w128 (of_z w128 f) *ℤ to_z w128 (of_z w128 y))) ≡ p *ℤ x
plain-product p x f y e d small sample =
    let product = scaled-bound p x (2 ^ 63) (2 ^ 31) small sample in
    rw (e, d, held p (omega arith), held x (omega arith), held (p *ℤ x) (omega (arith, product))) refl

-- one more echo
pub add-next : (y s z r w : ℤ) → y ≡ s +ℤ z → s +ℤ (z +ℤ r) ≡ w → y +ℤ r ≡ w
add-next y s z r w a b = omega (arith, ints, a, b)
