use Rattle.std.proofs.Common.{◌≡◌, ◌≤◌, ◌+◌, drop}
use Rattle.fx_cut.specs.Pad.{lengths, pads_from_start, silent_at}
use Rattle.fx_cut.proofs.pad.silence_by_starts.Given as goal

abbrev pub invariant-pads : goal.invariant-pads
invariant-pads l = record {
  counted : l.silent + silent_at (pads_from_start (drop l.length-index l.pads)) l.place ≡ silent_at (pads_from_start l.pads) l.place;
  bound : l.silent + lengths (drop l.length-index l.pads) ≤ lengths l.pads;
}
