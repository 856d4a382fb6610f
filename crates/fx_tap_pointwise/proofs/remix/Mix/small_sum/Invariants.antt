use Rattle.std.proofs.Common.{pos, map, slice_index_or}
use Rattle.fx_tap_sums.proofs.Convolving.{Adding}
use Rattle.fx_tap_pointwise.proofs.remix.Mix.small_sum.Given as goal

-- the contributions so far are added
abbrev pub invariant-contributions : goal.invariant-contributions
invariant-contributions l = Adding (map (λ c. slice_index_or l.samples c.0 (pos 0)) l.self) l.weights l.place l.sum
