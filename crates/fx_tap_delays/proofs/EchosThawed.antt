-- What an `echos` counted and stored, where it froze.
use Rattle.std.proofs.Common.{ℕ, ℤ, ◌≡◌, ◌+◌, ◌++◌, ◌∙◌, Option, List, length, refl, sym, ap, arith, length-append, slice_index_or}
use Rattle.fx_tap_delays.specs.DelayExtents.{sum_of_delays}
use Rattle.fx_frame_base.specs.Frame.{Samples}
use Rattle.fx_frame_line.specs.Line.{Frames}
use Rattle.fx_frame_base.specs.Stage.{Freezes}
use Rattle.fx_frame_base.specs.StageCore.{pending_frames}
use Rattle.fx_tap_delays.specs.Echo.{EchoArguments}
use Rattle.fx_tap_delays.specs.EchosState.{EchosState, IsEchos, echos_acts, frames_of_lines}
use Rattle.fx_tap_delays.specs.EchosStored.{AreEchosCounts, IsSeriesStored}
use Rattle.fx_frame.specs.Numbers.{by_name, core_of}
use Rattle.fx_frame.proofs.CoreLaws.{AreCoreNumbers-of, core_of-numbers}
use Rattle.fx_frame.proofs.Counts.{flag-false, flag-times}

module _ (s : EchosState) (a : EchoArguments) (frames : List Samples) (numbers : List ℕ) (is : IsEchos s) (made : s.arguments ≡ a) (froze : Freezes echos_acts s frames numbers) where
  -- a stage of these arguments that froze to these frames and numbers has such counts
  pub counts-are : AreEchosCounts (sum_of_delays a.echo.taps) (length frames) (by_name numbers)
  counts-are =
      let all : length (frames_of_lines s.lines ++ pending_frames s.core) ≡ length (frames_of_lines s.lines) + length (pending_frames s.core) = length-append (frames_of_lines s.lines) (pending_frames s.core) in
      rw (froze.counted, ← made)
      record {
        core = AreCoreNumbers-of _ _ s.core is.core;
        all = ap length (sym froze.stored);
        pending_count_held = omega (arith, all);
        not_ended = λ z. is.not_ended (flag-false s.core.ended z);
        counted = is.counted ∙ ap (λ n. s.core.taken + n) (flag-times s.core.ended (sum_of_delays s.arguments.echo.taps));
      }

  -- its lines and the pending frame are stored
  pub series-is : IsSeriesStored a.channels (slice_index_or numbers 1 0 + slice_index_or numbers 6 0) a.echo.taps (slice_index_or numbers 6 0) frames s.lines s.core.pending
  series-is = rw (froze.counted, ← made) record {
    series = record { as_many = is.as_many; lines_are = is.lines };
    held = is.core.fits;
    pending_count_is = refl;
    stored = froze.stored;
  }

  -- and it is the stage that is made of them
  pub thawed-is : (lines : List (Frames ℤ)) (pending : Option Samples) → lines ≡ s.lines → pending ≡ s.core.pending
      → record { arguments = a; lines = lines; core = core_of (by_name numbers).core pending; tail = (by_name numbers).tail } ≡ s
  thawed-is lines pending lines_are pending_is = rw (← made, lines_are, pending_is, froze.counted, core_of-numbers s.core) refl
