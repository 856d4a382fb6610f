-- A pending frame, or none.
use Rattle.std.proofs.Common.{◌≡◌, ◌≤◌, true, [], length, refl, arith, Option, Some, None, option_to_list, is_none}
use Rattle.fx_frame_base.specs.Frame.{Samples}

pub empty-pending : (pending : Option Samples) → is_none pending ≡ true → option_to_list pending ≡ []
empty-pending None h = refl
empty-pending (Some x) h = absurd (cc)

pub at_most_one : (pending : Option Samples) → length (option_to_list pending) ≤ 1
at_most_one None = omega arith
at_most_one (Some x) = omega arith

pub no-pending : (pending : Option Samples) → length (option_to_list pending) ≡ 0 → pending ≡ None
no-pending None h = refl
no-pending (Some x) h = absurd (omega arith)
