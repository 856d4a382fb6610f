use Rattle.std.proofs.Common.{take}
use Rattle.soxchain_stream.specs.Appended.{AppendsFrames}
use Rattle.soxchain_stream.proofs.frozen.append_stored.Given as goal

abbrev pub invariant-places : goal.invariant-places
invariant-places g l = AppendsFrames l.initial.bytes.items l.bytes.items (take l.place (g.S.Stage.acts.stored l.stage))
