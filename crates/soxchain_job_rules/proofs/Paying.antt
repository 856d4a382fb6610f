-- Pieces that pay for a checkpoint.
use Rattle.std.proofs.Common.{◌≡◌, ℕ, ◌<◌, ◌≤◌, ◌*◌, ◌-◌, ◌^◌, arith, min, max}
use Rattle.std.proofs.lemmas.Grind.{div_ceil_times}
use Rattle.std.proofs.Math.Nat.{mul-le-mul_right, le_trans}
use Rattle.std.specs.Int.{div_ceil}

-- a number that is at least the quotient, rounded up, unless it is the largest one
pub pays : (a c m n : ℕ) → 0 < c → n ≡ min (2 ^ 64 - 1) (max 1 (max (div_ceil a c) m)) → n < 2 ^ 64 - 1 → a ≤ n * c
pays a c m n positive is below =
    let enough : div_ceil a c ≤ n = omega arith in
    le_trans (div_ceil_times a c positive).0 (mul-le-mul_right c enough)
