use Rattle.std.proofs.Common.{◌≡◌, ◌≤◌, ◌*◌, ◌^◌, ◌+ℤ◌, drop, length, map, unsigned_abs}
use Rattle.fx_tap_pointwise.specs.Mix.{pair_of}
use Rattle.fx_tap_pointwise.specs.Remix.{mixed_parts}
use Rattle.fx_tap_pointwise.proofs.remix.Mix.sum.Given as goal

-- the sum so far; with what is to come it is the whole sum
abbrev pub invariant-contributions : goal.invariant-contributions
invariant-contributions l = record {
  sum : l.sum +ℤ mixed_parts (length l.self) (map pair_of (drop l.contribution-index l.contribution-items)) l.samples ≡ mixed_parts (length l.self) l.self l.samples;
  small : unsigned_abs l.sum ≤ l.contribution-index * (2 ^ 63 * 2 ^ 31);
}
