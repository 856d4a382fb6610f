use Rattle.std.proofs.Common.{◌≡◌, ◌≤◌, ◌+◌, drop}
use Rattle.fx_cut.specs.Pad.{lengths, placed, placed_after}
use Rattle.fx_cut.specs.PadState.{silence_from}
use Rattle.fx_cut.proofs.pad.silence_after.Given as goal

abbrev pub invariant-pads : goal.invariant-pads
invariant-pads l = record {
  counted : l.silent + silence_from (placed_after l.frames l.last (drop l.length-index l.pads)) l.place ≡ silence_from (placed l.frames l.pads) l.place;
  bound : l.silent + lengths (drop l.length-index l.pads) ≤ lengths l.pads;
}
