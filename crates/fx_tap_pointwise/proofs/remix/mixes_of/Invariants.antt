use Rattle.std.proofs.Common.{◌≡◌, map, take}
use Rattle.fx_tap_pointwise.proofs.remix.mixes_of.Given as goal

-- the mixes so far
abbrev pub invariant-outs : goal.invariant-outs
invariant-outs l = l.mixes.items ≡ map (λ out. out.items) (take l.out-index l.outs)
