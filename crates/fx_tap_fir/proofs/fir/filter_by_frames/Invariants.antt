use Rattle.std.proofs.Common.{◌≡◌, ◌≤◌, ◌*◌, drop, length, reverse}
use Rattle.fx_frame_base.specs.Lists.{pieces}
use Rattle.fx_frame_line.specs.Line.{pushed_all}
use Rattle.fx_tap_fir.specs.Fir.{FirArguments}
use Rattle.fx_tap_fir.specs.FirState.{fir_taps}
use Rattle.fx_frame.specs.Tapped.{clips_after, frames_after}
use Rattle.fx_tap_fir.proofs.fir.filter_by_frames.Given as goal

-- the frames so far
abbrev pub invariant-frames : goal.invariant-frames
invariant-frames l =
    let r : FirArguments = record { channels = l.channels; coefficients = reverse l.kernel } in
    record {
      at_is : l.from ≡ l._turn * l.channels;
      done : pieces l.channels l._turn l.samples ≡ frames_after fir_taps r l.fn.line.items (pieces l.channels l._turn l.fn.samples);
      rest_unchanged : drop l.from l.samples ≡ drop l.from l.fn.samples;
      counted : l.clips ≡ clips_after fir_taps r l.fn.line.items (pieces l.channels l._turn l.fn.samples);
      bound : l.clips ≤ 16 * l._turn;
      line : l.line ≡ record l.fn.line { items = pushed_all l.fn.line (pieces l.channels l._turn l.fn.samples) };
      within : length l.line.items ≤ l.fn.line.capacity;
    }
