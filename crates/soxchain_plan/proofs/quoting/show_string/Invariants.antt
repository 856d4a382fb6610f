use Rattle.std.proofs.Common.{codes, flat_map, take, ◌++◌}
use Rattle.std.specs.Io.KnownBytes.{Appends}
use Rattle.soxchain_plan.specs.Quoted.{json_byte}
use Rattle.soxchain_plan.proofs.quoting.show_string.Given as goal

abbrev pub invariant-loop-byte : goal.invariant-loop-byte
invariant-loop-byte g l = Appends (g.W.Write.contents l.fn.writer) (g.W.Write.contents l.writer) (codes "\"" ++ flat_map json_byte (take l.byte-index l.line))
