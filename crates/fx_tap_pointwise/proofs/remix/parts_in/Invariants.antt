use Rattle.std.proofs.Common.{◌≡◌, map, take}
use Rattle.fx_tap_pointwise.proofs.remix.parts_in.Given as goal

-- the parts so far
abbrev pub invariant-contributions : goal.invariant-contributions
invariant-contributions l = l.parts.items ≡ map (λ c. c.parts) (take l.contribution-index l.contributions)
