-- Whether a stage with a pending frame, and frames to come after it, has something to give.
use Rattle.std.proofs.Common.{ℕ, zero, suc, ◌<◌, ◌≡◌, true, false, refl, arith, Option, Some, None, is_none, nat_eq, ◌&&◌}
use Prim.Native.Nat.compare
use Rattle.fx_frame_base.specs.Frame.{Samples}

-- a dry stage has no pending frame
pub dry-pending : (pending : Option Samples) (tail : ℕ) → (is_none pending && nat_eq tail 0) ≡ true → pending ≡ None
dry-pending None tail h = refl
dry-pending (Some x) tail h = absurd (cc)

-- one with frames to come is not dry
pub dry-tail : (pending : Option Samples) (tail : ℕ) → 0 < tail → (is_none pending && nat_eq tail 0) ≡ false
dry-tail None zero h = absurd (omega arith)
dry-tail None (suc n) h = rw (compare.suc-zero) refl
dry-tail (Some x) n h = refl
