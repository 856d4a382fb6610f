use Rattle.std.proofs.Common.{◌≡◌, ◌<◌, ◌≤◌, ◌+◌, ◌*◌, [], ℕ, length, pos, slice_index_or}
use Rattle.fx_frame_base.specs.Lists.{pieces}
use Rattle.fx_tap_pointwise.specs.Remix.{remixed_sample}
use Rattle.fx_frame.proofs.Tables.{all_clips}
use Rattle.fx_tap_pointwise.proofs.remix.mix_piece.Given as goal

-- the output channels so far
abbrev pub invariant-mixes : goal.invariant-mixes
invariant-mixes l = record {
  put : (i c : ℕ) → i < l.shape.count → c < l.channel → slice_index_or l.out (i * length l.mixes + c) (pos 0) ≡ (remixed_sample (slice_index_or l.mixes c []) (slice_index_or (pieces l.shape.channels l.shape.count l.frames) i [])).0;
  counted : l.clips ≡ all_clips (λ i c. remixed_sample (slice_index_or l.mixes c []) (slice_index_or (pieces l.shape.channels l.shape.count l.frames) i [])) l.channel 0 l.shape.count;
  bound : l.clips ≤ l.channel * l.shape.count;
}
