-- Positions in order.
use Rattle.std.proofs.Common.{◌≡◌, ℕ, ◌<◌, List, [], ◌∷◌, length, refl, arith}
use Rattle.fx_fixed.specs.declared.positions.At.{At}
use Rattle.fx_cut.specs.TrimWords.{order_faults}

pub order_faults-short : (number : ℕ) (positions : List At) → length positions < 2 → order_faults number positions ≡ []
order_faults-short number [] short = refl
order_faults-short number (p ∷ []) short = refl
order_faults-short number (p ∷ q ∷ ps) short = absurd (omega arith)

pub ruleset orders = order_faults-short
