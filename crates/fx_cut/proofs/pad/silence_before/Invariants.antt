use Rattle.std.proofs.Common.{◌≡◌, ◌≤◌, ◌+◌, drop, sum_by, filter, nat_lt}
use Rattle.fx_cut.specs.Pad.{lengths, pads_from_start}
use Rattle.fx_cut.proofs.pad.silence_before.Given as goal

abbrev pub invariant-pads : goal.invariant-pads
invariant-pads l = record {
  counted : l.silent + sum_by (λ p. p.0) (filter (λ p. nat_lt p.1 l.end) (pads_from_start (drop l.length-index l.pads))) ≡ sum_by (λ p. p.0) (filter (λ p. nat_lt p.1 l.end) (pads_from_start l.pads));
  bound : l.silent + lengths (drop l.length-index l.pads) ≤ lengths l.pads;
}
