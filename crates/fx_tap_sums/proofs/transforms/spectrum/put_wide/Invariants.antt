use Rattle.std.proofs.Common.{◌≡◌, ◌<◌, ℕ, pos, get_or}
use Rattle.fx_tap_sums.proofs.transforms.spectrum.put_wide.Given as goal

abbrev pub invariant-places : goal.invariant-places
invariant-places l = (i : ℕ) → i < l.place → get_or l.wide i (pos 0) ≡ pos (get_or l.numbers i 0)
