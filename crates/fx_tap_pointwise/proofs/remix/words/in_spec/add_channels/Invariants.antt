use Rattle.std.proofs.Common.{◌≡◌, ◌-◌, ◌++◌, map}
use Rattle.std.specs.List.{range_with_len}
use Rattle.fx_tap_pointwise.specs.InSpecs.{contribution}
use Rattle.fx_tap_pointwise.proofs.remix.words.in_spec.add_channels.Given as goal

abbrev pub invariant-loop-channel : goal.invariant-loop-channel
invariant-loop-channel l =
    l.sum.items ≡ l.initial.sum.items ++ map (contribution l.found.gain) (range_with_len (l.found.low - 1) (l.channel - (l.found.low - 1)))
