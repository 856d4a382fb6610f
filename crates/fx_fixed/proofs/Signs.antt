-- The sign of a rounded product.
use Rattle.std.proofs.Common.{◌≡◌, ℕ, zero, suc, ◌*◌, ◌<◌, refl, arith, ℤ, pos, negsuc, neg_ℤ, ◌*ℤ◌, not, false, ltb, true, int_lt, unsigned_abs}
use Rattle.std.specs.Bool.{beq}
use Rattle.std.proofs.lemmas.Bool.Decides.{nat_tests}
use Rattle.std.proofs.Math.Nat.{div-eq_of_lt}
use Rattle.fx_fixed.specs.Rounding.{nearest_natural, nearest, signed}

pub none_below_zero : (a : ℕ) → ltb a 0 ≡ false
none_below_zero a = grind (arith, nat_tests)

-- the sign of a rounded number is that of the number, also where one of them is 0
pub nearest-neg : (n u : ℕ) → 0 < u → nearest (neg_ℤ (pos n)) u ≡ signed true (nearest_natural n u)
nearest-neg zero u positive =
    let none : nearest_natural 0 u ≡ 0 = div-eq_of_lt (omega arith) in
    rw none refl
nearest-neg (suc n) u positive = refl

pub nearest-mul : (g x : ℤ) (u : ℕ) → 0 < u → nearest (g *ℤ x) u ≡ signed (not (beq (int_lt g (pos 0)) (int_lt x (pos 0)))) (nearest_natural (unsigned_abs g * unsigned_abs x) u)
nearest-mul (pos a) (pos b) u positive = rw (none_below_zero a, none_below_zero b) refl
nearest-mul (pos a) (negsuc b) u positive = rw (none_below_zero a) (nearest-neg (a * suc b) u positive)
nearest-mul (negsuc a) (pos b) u positive = rw (none_below_zero b) (nearest-neg (suc a * b) u positive)
nearest-mul (negsuc a) (negsuc b) u positive = refl
