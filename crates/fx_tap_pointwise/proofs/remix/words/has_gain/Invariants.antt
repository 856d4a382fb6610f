use Rattle.std.proofs.Common.{◌≡◌, take, false}
use Rattle.std.specs.List.{list_any}
use Rattle.fx_tap_pointwise.specs.RemixWords.{has_gain}
use Rattle.fx_tap_pointwise.proofs.remix.words.has_gain.Given as goal

abbrev pub invariant-loop-contribution : goal.invariant-loop-contribution
invariant-loop-contribution l = list_any has_gain (take l.contribution-index l.sum) ≡ false
