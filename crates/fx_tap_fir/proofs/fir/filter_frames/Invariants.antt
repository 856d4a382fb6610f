use Rattle.std.proofs.Common.{◌≡◌, ◌≤◌, ◌-◌, ◌*◌, drop, length, reverse}
use Rattle.fx_frame_base.specs.Lists.{pieces}
use Rattle.fx_frame_line.specs.Line.{pushed_all}
use Rattle.fx_tap_fir.specs.Fir.{FirArguments}
use Rattle.fx_tap_fir.specs.FirState.{fir_taps}
use Rattle.fx_frame.specs.Tapped.{clips_after, frames_after}
use Rattle.fx_tap_fir.proofs.fir.filter_frames.Given as goal

-- the pieces so far
abbrev pub invariant-pieces : goal.invariant-pieces
invariant-pieces l =
    let r : FirArguments = record { channels = l.channels; coefficients = reverse l.kernel } in
    record {
      place : l.done ≤ l.count;
      frames : pieces l.channels l.done l.output ≡ frames_after fir_taps r l.fn.line.items (pieces l.channels l.done l.input);
      rest_unchanged : drop (l.done * l.channels) l.output ≡ drop (l.done * l.channels) l.fn.output;
      counted : l.clips ≡ clips_after fir_taps r l.fn.line.items (pieces l.channels l.done l.input);
      bound : l.clips ≤ 16 * l.done;
      line : l.line ≡ record l.fn.line { items = pushed_all l.fn.line (pieces l.channels l.done l.input) };
      full : length l.line.items ≡ l.fn.line.capacity;
    }

abbrev pub decreases-pieces : goal.decreases-pieces
decreases-pieces l = l.count - l.done
