-- Numbers that are the same modulo another one.
use Rattle.std.proofs.Common.{◌≡◌, ◌+◌, ◌-◌, ◌*◌, ◌/◌, ◌%◌, ◌^◌, ◌<◌, ℕ, ap, sym, arith, ℤ, pos, neg_ℤ, ◌*ℤ◌, ◌+ℤ◌, unsigned_abs, w32, ◌-ℤ◌, FitsSigned}
use Rattle.std.proofs.Math.IntN.{*ℤ_comm}
use Rattle.std.proofs.lemmas.Int.{ints}
use borrow.Author.Differences.{product_is}
use Rattle.fx_tap_sums.specs.Residues.{Same}
use Rattle.fx_tap_sums.proofs.Numbers.{mul-add, mul-neg, mul_swap, neg-mul}

pub same_refl : (p a : ℤ) → Same p a a
same_refl p a = let z = product_is p (pos 0) in (pos 0, omega (arith, ints))

pub same_is : (p a b : ℤ) → a ≡ b → Same p a b
same_is p a b e = let z = product_is p (pos 0) in (pos 0, omega (arith, ints))

pub same_sym : (p a b : ℤ) → Same p a b → Same p b a
same_sym p a b h = let z = mul-neg p h.0 in (neg_ℤ h.0, let e = h.1 in omega (arith, ints))

pub same_on : (p a b c : ℤ) → Same p a b → Same p b c → Same p a c
same_on p a b c h g = let e = h.1 in let f = g.1 in let parts = mul-add p h.0 g.0 in (h.0 +ℤ g.0, omega (arith, ints))

pub same_add : (p a b c d : ℤ) → Same p a b → Same p c d → Same p (a +ℤ c) (b +ℤ d)
same_add p a b c d h g = let e = h.1 in let f = g.1 in let parts = mul-add p h.0 g.0 in (h.0 +ℤ g.0, omega (arith, ints))

pub same_mul : (p c a b : ℤ) → Same p a b → Same p (c *ℤ a) (c *ℤ b)
same_mul p c a b h =
    let e = ap (λ z. c *ℤ z) h.1 in
    let parts = mul-add c b (p *ℤ h.0) in
    let turned = mul_swap c p h.0 in
    (c *ℤ h.0, omega (arith, ints))

pub same_times : (p c a b : ℤ) → Same p a b → Same p (a *ℤ c) (b *ℤ c)
same_times p c a b h =
    let first = *ℤ_comm a c in
    let second = *ℤ_comm b c in
    same_on p (a *ℤ c) (c *ℤ a) (b *ℤ c) (same_is p (a *ℤ c) (c *ℤ a) first) (same_on p (c *ℤ a) (c *ℤ b) (b *ℤ c) (same_mul p c a b h) (same_is p (c *ℤ b) (b *ℤ c) (sym second)))

-- a remainder
pub same_less : (p a b k : ℕ) → a + p * k ≡ b → Same (pos p) (pos a) (pos b)
same_less p a b k e =
    let turned = mul-neg (pos p) (pos k) in
    let product : pos p *ℤ pos k ≡ pos (p * k) = ap pos (omega arith) in
    (neg_ℤ (pos k), omega (arith, ints))

-- a sample of 32 bits and 2^31 together are not below 0
raised_is : (x : ℤ) → FitsSigned w32 x → pos (unsigned_abs (x +ℤ pos (2 ^ 31))) ≡ x +ℤ pos (2 ^ 31)
raised_is x fits = omega (arith, ints, fits)

-- the remainder of that sum, less that of 2^31, which is below the modulus
pub raised_same : (p : ℕ) (x : ℤ) → 0 < p → FitsSigned w32 x → Same (pos p) (pos (unsigned_abs (x +ℤ pos (2 ^ 31)) % p + (p - 2 ^ 31 % p))) x
raised_same p x some fits =
    let n : ℕ = unsigned_abs (x +ℤ pos (2 ^ 31)) in
    let q : ℕ = n / p in
    let r : ℕ = (2 ^ 31) / p in
    let is : pos n ≡ x +ℤ pos (2 ^ 31) = raised_is x fits in
    let first : p * q + n % p ≡ n = omega (arith, some) in
    let second : p * r + (2 ^ 31) % p ≡ 2 ^ 31 = omega (arith, some) in
    let less : (2 ^ 31) % p < p = omega (arith, some) in
    let parts = mul-add (pos p) (pos (1 + r)) (neg_ℤ (pos q)) in
    let turned = mul-neg (pos p) (pos q) in
    let more : pos p *ℤ pos (1 + r) ≡ pos (p + p * r) = ap pos (omega arith) in
    let product : pos p *ℤ pos q ≡ pos (p * q) = ap pos (omega arith) in
    (pos (1 + r) +ℤ neg_ℤ (pos q), omega (arith, ints, is, first, second, less))

-- the negatives
pub same_negated : (p a b : ℤ) → Same p a b → Same p (neg_ℤ a) (neg_ℤ b)
same_negated p a b h =
    let e = h.1 in
    let turned = mul-neg p h.0 in
    (neg_ℤ h.0, omega (arith, ints))

pub same_product : (p a b c d : ℤ) → Same p a b → Same p c d → Same p (a *ℤ c) (b *ℤ d)
same_product p a b c d h g = same_on p (a *ℤ c) (b *ℤ c) (b *ℤ d) (same_times p c a b h) (same_mul p b c d g)

-- a sum with the same number
pub same_added : (p a b c : ℤ) → Same p b c → Same p (a +ℤ b) (a +ℤ c)
same_added p a b c h = same_add p a a b c (same_refl p a) h

-- a product with what an opposite makes of a difference
pub times_apart : (p w a b less z : ℤ) → Same p z (w *ℤ (a +ℤ less)) → Same p less (neg_ℤ b) → Same p z (w *ℤ (a -ℤ b))
times_apart p w a b less z product opposite = same_on p z (w *ℤ (a +ℤ less)) (w *ℤ (a -ℤ b)) product (same_mul p w (a +ℤ less) (a -ℤ b) (same_added p a less (neg_ℤ b) opposite))

-- the opposite of a product
pub minus_times : (p r b part less : ℤ) → Same p less (neg_ℤ part) → Same p part (r *ℤ b) → Same p less (neg_ℤ r *ℤ b)
minus_times p r b part less opposite product = rw (neg-mul r b) (same_on p less (neg_ℤ part) (neg_ℤ (r *ℤ b)) opposite (same_negated p part (r *ℤ b) product))
