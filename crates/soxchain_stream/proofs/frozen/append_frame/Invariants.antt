use Rattle.std.proofs.Common.{◌∷◌, length, map, take}
use Rattle.std.specs.Int.{cast_unsigned, w64}
use Rattle.soxchain_stream.specs.Appended.{AppendsWords}
use Rattle.soxchain_stream.proofs.frozen.append_frame.Given as goal

abbrev pub invariant-samples : goal.invariant-samples
invariant-samples l = AppendsWords l.fn.bytes.items l.bytes.items (length l.frame ∷ map (cast_unsigned w64) (take l.sample-index l.samples))
