use Rattle.std.proofs.Common.{ℕ, ◌≡◌, ◌<◌, slice_index}
use Rattle.fx_tap_delays.proofs.delay.all_are.Given as goal

abbrev pub invariant-delays : goal.invariant-delays
invariant-delays l = (k : ℕ) → k < l.delay-index → slice_index l.delays k ≡ l.reach
