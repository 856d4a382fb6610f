use Rattle.std.proofs.Common.{◌≡◌, take, map}
use Rattle.fx_tap_pointwise.specs.RemixWords.{weight_of}
use Rattle.fx_tap_pointwise.proofs.remix.words.weigh.Given as goal

abbrev pub invariant-loop-contribution : goal.invariant-loop-contribution
invariant-loop-contribution l = l.spec.items ≡ map (weight_of l.default) (take l.contribution-index l.sum)
