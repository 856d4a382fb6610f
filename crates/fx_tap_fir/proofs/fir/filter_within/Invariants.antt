use Rattle.std.proofs.Common.{◌≡◌, ◌<◌, ◌≤◌, ◌+◌, ◌*◌, ◌++◌, ℕ, pos, length, reverse, slice_index_or}
use Rattle.fx_frame_base.specs.Lists.{pieces}
use Rattle.fx_tap_fir.specs.Fir.{filtered_sample}
use Rattle.fx_frame.proofs.Tables.{all_clips}
use Rattle.fx_tap_fir.proofs.fir.filter_within.Given as goal

-- the channels so far
abbrev pub invariant-channels : goal.invariant-channels
invariant-channels g l = record {
  size : length l.window ≡ length l.line.items + l.count;
  sums : length l.sums ≡ l.count;
  put : (i c : ℕ) → i < l.count → c < l.channel → slice_index_or l.out (i * l.channels + c) (pos 0) ≡ (filtered_sample (reverse l.kernel) (l.line.items ++ pieces l.channels l.count l.frames) (length l.line.items + i) c).0;
  counted : l.clips ≡ all_clips (λ i. filtered_sample (reverse l.kernel) (l.line.items ++ pieces l.channels l.count l.frames) (length l.line.items + i)) l.channel 0 l.count;
  bound : l.clips ≤ l.channel * l.count;
}
