-- Written by scripts/effects from effects/*.toml. Do not edit.
-- What is proved of each effect: more frames in make no fewer out.
use Rattle.std.proofs.Common.{ℕ, ◌≤◌, arith, mul-le-mul_right}
use Rattle.fx_plan_effects.specs.Registry.{OfPad, OfDelay, OfEcho, OfEchos, OfUpsample, OfDownsample}
use Rattle.fx_plan_effects.specs.Meanings.{InPlace, Placed, kind_at}
use Rattle.fx_cut.specs.Ceil.{ceil_rises}

-- more frames in make no fewer out
pub rises-at : (p : Placed) (m n : ℕ) → m ≤ n → (kind_at p).maximum m ≤ (kind_at p).maximum n
rises-at (InPlace channels (OfPad pads)) m n h = omega arith
rises-at (InPlace channels (OfDelay ds)) m n h = omega arith
rises-at (InPlace channels (OfEcho e)) m n h = omega arith
rises-at (InPlace channels (OfEchos e)) m n h = omega arith
rises-at (InPlace channels (OfUpsample factor)) m n h = mul-le-mul_right factor h
rises-at (InPlace channels (OfDownsample factor)) m n h = ceil_rises m n factor h
rises-at (InPlace channels other) m n h = h
