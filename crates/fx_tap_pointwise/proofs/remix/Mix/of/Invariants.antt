use Rattle.std.proofs.Common.{◌≡◌, length, map, take}
use Rattle.std.specs.List.{All}
use Rattle.fx_tap_pointwise.specs.Mix.{IsContribution, pair_of}
use Rattle.fx_tap_pointwise.proofs.remix.Mix.of.Given as goal

-- the contributions so far
abbrev pub invariant-contributions : goal.invariant-contributions
invariant-contributions l = record {
  pairs : map pair_of l.contributions.items ≡ take l.channel-index l.out;
  count : length l.contributions.items ≡ l.channel-index;
  made : All (IsContribution (length l.out)) l.contributions.items;
}
