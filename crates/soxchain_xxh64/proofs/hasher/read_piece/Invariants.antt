use Rattle.std.specs.Io.KnownBytes.{Keeps}
use Rattle.soxchain_xxh64.proofs.hasher.read_piece.Given as goal

-- an interrupted read took nothing
abbrev pub invariant-loop : goal.invariant-loop
invariant-loop g l = Keeps (g.R.Read.remaining l.initial.reader) (g.R.Read.remaining l.reader)
