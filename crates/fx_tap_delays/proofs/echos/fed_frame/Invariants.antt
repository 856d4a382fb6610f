use Rattle.std.proofs.Common.{◌≡◌, ◌-◌, ◌++◌, pos, ◌+ℤ◌, replicate, slice_index_or}
use Rattle.fx_frame_base.specs.Lists.{tabulate}
use Rattle.fx_tap_delays.proofs.echos.fed_frame.Given as goal

-- the channels so far are added
abbrev pub invariant-channels : goal.invariant-channels
invariant-channels l = l.sums ≡ tabulate (λ k. slice_index_or l.fn.frame k (pos 0) +ℤ slice_index_or l.fn.before k (pos 0)) 0 l.channel ++ replicate (16 - l.channel) (pos 0)
