use Rattle.std.proofs.Common.{◌<◌, [], ℕ, length, map, pos, slice_index_or}
use Rattle.fx_frame_base.specs.Lists.{pieces}
use Rattle.fx_tap_sums.proofs.Convolving.{Adding}
use Rattle.fx_tap_pointwise.proofs.remix.Mix.add_channels.Given as goal

-- the contributions so far are added
abbrev pub invariant-contributions : goal.invariant-contributions
invariant-contributions l = (i : ℕ) → i < length l.fn.sums → Adding (map (λ c. slice_index_or (slice_index_or (pieces l.channels (length l.fn.sums) l.frames) i []) c.0 (pos 0)) l.self) l.weights l.place (slice_index_or l.sums i (pos 0))
