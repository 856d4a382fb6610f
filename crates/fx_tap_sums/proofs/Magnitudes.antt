-- How large products and sums are.
use Rattle.std.proofs.Common.{ℕ, ℤ, ◌+◌, ◌*◌, ◌≤◌, ◌+ℤ◌, ◌*ℤ◌, arith, unsigned_abs}
use Rattle.std.proofs.lemmas.Int.{ints, unsigned_abs-mul}
use Rattle.std.proofs.Math.Nat.{mul-le-mul}

-- how large a product is
pub scaled-bound : (g x : ℤ) (u m : ℕ) → unsigned_abs g ≤ u → unsigned_abs x ≤ m → unsigned_abs (g *ℤ x) ≤ u * m
scaled-bound g x u m h k =
    let maximum : unsigned_abs g * unsigned_abs x ≤ u * m = mul-le-mul h k in
    rw unsigned_abs-mul maximum

-- how large a sum is
pub added-bound : (s p : ℤ) (a b : ℕ) → unsigned_abs s ≤ a → unsigned_abs p ≤ b → unsigned_abs (s +ℤ p) ≤ a + b
added-bound s p a b h k = omega (arith, ints)
