use Rattle.std.proofs.Common.{ℕ, ◌≡◌, ◌<◌, ◌≤◌, ◌⊎◌, slice_index}
use Rattle.fx_tap_delays.proofs.delay.frames_of_piece.Given as goal

-- no late channel so far is late by fewer
abbrev pub invariant-delays : goal.invariant-delays
invariant-delays l = record {
  some : 1 ≤ l.maximum;
  late : (k : ℕ) → k < l.delay-index → (slice_index l.delays k ≡ 0) ⊎ (l.maximum ≤ slice_index l.delays k);
}
