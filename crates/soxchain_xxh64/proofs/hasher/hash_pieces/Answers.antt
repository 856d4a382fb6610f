use Rattle.std.proofs.Common.{drop, arith}
use Rattle.std.proofs.lemmas.List.{length-take}
use Rattle.soxchain_xxh64.proofs.Fronts.{hashed_more}
use Rattle.soxchain_xxh64.proofs.hasher.hash_pieces.Goals as goal

pub loop-left-preserved : goal.loop-left-preserved
loop-left-preserved g c =
    let delivered = c.in_ok-delivered.ensures in
    hashed_more g.R.Read.remaining g.H.ByteHasher.is_hash_of c.args.reader.now c.loop-left.reader c.read_piece.new.reader
    c.args.hasher.now c.loop-left.hasher c.update.new.self c.read_piece.new.piece (drop c.min-wanted.result c.loop-left.piece)
    c.in_ok-delivered.delivered c.loop-left.left c.args.count c.loop-left.invariant delivered.bound.0 (omega (arith, delivered.bound.0, c.read_piece.auto.piece, length-take c.min-wanted.result c.loop-left.piece)) delivered.bytes.0 c.update.ensures
