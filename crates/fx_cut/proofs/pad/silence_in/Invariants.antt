use Rattle.std.proofs.Common.{◌≡◌, ◌≤◌, ◌+◌, drop}
use Rattle.fx_cut.specs.Pad.{lengths, placed, placed_after, silent_at}
use Rattle.fx_cut.proofs.pad.silence_in.Given as goal

abbrev pub invariant-pads : goal.invariant-pads
invariant-pads l = record {
  counted : l.silent + silent_at (placed_after l.frames l.last (drop l.length-index l.pads)) l.place ≡ silent_at (placed l.frames l.pads) l.place;
  bound : l.silent + lengths (drop l.length-index l.pads) ≤ lengths l.pads;
}
