use Rattle.std.proofs.Common.{◌≡◌, take, slice_index}
use Rattle.fx_frame_base.specs.Lists.{tabulate}
use Rattle.fx_tap_delays.specs.Tapping.{history_after}
use Rattle.fx_tap_delays.proofs.delay.delayed_into.Given as goal

-- the channels so far are delayed
abbrev pub invariant-channels : goal.invariant-channels
invariant-channels l = take l.channel l.out ≡ tabulate (λ k. history_after l.line.items l.frame (slice_index l.delays k) k) 0 l.channel
