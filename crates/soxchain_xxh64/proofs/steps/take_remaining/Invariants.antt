use Rattle.std.proofs.Common.{◌≡◌, take}
use Rattle.std.specs.List.{fold}
use Rattle.soxchain_xxh64.specs.Xxh64.{take_eight}
use Rattle.soxchain_xxh64.proofs.steps.take_remaining.Given as goal

abbrev pub invariant-loop-eight : goal.invariant-loop-eight
invariant-loop-eight l = l.hash ≡ fold take_eight l.initial.hash (take l.eight-index l.eights)
