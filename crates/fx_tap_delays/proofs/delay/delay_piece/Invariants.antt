use Rattle.std.proofs.Common.{◌≡◌, ◌<◌, ◌≤◌, ◌+◌, ◌*◌, ◌++◌, ℕ, pos, length, slice_index_or, slice_index}
use Rattle.fx_frame_base.specs.Lists.{pieces}
use Rattle.fx_frame.specs.History.{sample_before}
use Rattle.fx_tap_delays.proofs.delay.delay_piece.Given as goal

-- the channels so far are delayed, and the others stand as they came
abbrev pub invariant-channels : goal.invariant-channels
invariant-channels l = record {
  done : (i k : ℕ) → i < l.count → k < l.channel → slice_index_or l.out (i * length l.delays + k) (pos 0) ≡ sample_before (l.line.items ++ pieces (length l.delays) l.count l.frames) (length l.line.items + i) (slice_index l.delays k) k;
  left : (i k : ℕ) → k < length l.delays → l.channel ≤ k → slice_index_or l.out (i * length l.delays + k) (pos 0) ≡ slice_index_or l.frames (i * length l.delays + k) (pos 0);
}
