-- A shift to the right is a division that rounds down.
use Rattle.std.proofs.Common.{◌≡◌, ℕ, ℤ, pos, negsuc, refl}
use Rattle.std.specs.Int.{int_div_euclid}
use lib.Signed.{shr_z}

pub shift_floors : (z : ℤ) (m : ℕ) → shr_z z m ≡ int_div_euclid z (pos m)
shift_floors (pos a) m = refl
shift_floors (negsuc a) m = refl
