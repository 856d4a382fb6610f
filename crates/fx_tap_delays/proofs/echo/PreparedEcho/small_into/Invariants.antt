use Rattle.std.proofs.Common.{◌≡◌, ◌≤◌, ◌++◌, ◌∷◌, [], length, take}
use Rattle.fx_tap_delays.specs.Echo.{echoed_sample}
use Rattle.fx_frame_base.specs.Lists.{tabulate}
use Rattle.fx_frame_base.specs.Rounded.{clips_rounded, samples_of}
use Rattle.fx_frame.specs.History.{sample_before}
use Rattle.fx_tap_delays.proofs.echo.PreparedEcho.small_into.Given as goal

-- the channels so far are rounded, and their clips counted
abbrev pub invariant-channels : goal.invariant-channels
invariant-channels l = record {
  done : take l.channel l.out ≡ samples_of (tabulate (echoed_sample l.self.echo (sample_before (l.line.items ++ l.frame ∷ []) (length l.line.items))) 0 l.channel);
  counted : l.clips ≡ clips_rounded (tabulate (echoed_sample l.self.echo (sample_before (l.line.items ++ l.frame ∷ []) (length l.line.items))) 0 l.channel);
  bound : l.clips ≤ l.channel;
}
