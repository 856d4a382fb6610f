use Rattle.std.proofs.Common.{ℕ, ◌≡◌, ◌<◌, ◌+◌, drop}
use Rattle.fx_cut.specs.Pad.{pads_from_start, silent_at}
use Rattle.fx_cut.proofs.pad.clear_frames_from.Given as goal

abbrev pub invariant-pads : goal.invariant-pads
invariant-pads l = (n : ℕ) → n < l.clear_frames → silent_at (pads_from_start (drop l._length-index l.pads)) (l.place + n) ≡ silent_at (pads_from_start l.pads) (l.place + n)
