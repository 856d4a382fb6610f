use Rattle.std.proofs.Common.{◌≡◌, ◌-◌, ◌≤◌, length}
use Rattle.std.specs.Io.KnownBytes.{Consumes}
use Rattle.soxchain_common.proofs.files.read_front.Given as goal

abbrev pub invariant-loop-piece : goal.invariant-loop-piece
invariant-loop-piece g l = record {
  came : Consumes (g.R.ByteIn.reads.rest l.fn.reader) (g.R.ByteIn.reads.rest l.reader) l.bytes.items;
  bound : length l.bytes.items ≤ 1048577;
  delivered : g.R.ByteIn.reads.delivered l.fn.reader ≡ 0 → g.R.ByteIn.reads.delivered l.reader ≡ length l.bytes.items;
  unfailed : g.R.ByteIn.reads.failures l.reader ≡ g.R.ByteIn.reads.failures l.fn.reader;
}

abbrev pub decreases-loop-piece : goal.decreases-loop-piece
decreases-loop-piece g l = 1048577 - length l.bytes.items
