-- Quotients that are rounded up.
use Rattle.std.specs.Prelude.{ℕ, zero, suc, ◌+◌, ◌*◌, ◌<◌, ◌≤◌}
use Rattle.std.proofs.Common.{arith}
use Rattle.std.specs.Int.{div_ceil}
use Rattle.std.proofs.lemmas.Grind.{div_ceil_times}
use Rattle.std.proofs.Math.Nat.{lt_of_mul-lt-mul_right, div-zero, mod-zero}

-- one is not above another where its product is below that of the one after
pub by_products : (a b f s t : ℕ) → a * f < s + f → s ≤ t → t ≤ b * f → a ≤ b
by_products a b f s t p q r =
    let h : a * f < (b + 1) * f = omega arith in
    let k : a < b + 1 = lt_of_mul-lt-mul_right f h in
    omega arith

-- a greater number has no smaller quotient
pub ceil_rises : (s t f : ℕ) → s ≤ t → div_ceil s f ≤ div_ceil t f
ceil_rises s t zero p = rw (div-zero, mod-zero) (omega arith)
ceil_rises s t (suc f) p = by_products (div_ceil s (suc f)) (div_ceil t (suc f)) (suc f) s t (div_ceil_times s (suc f) (omega arith)).1 p (div_ceil_times t (suc f) (omega arith)).0
