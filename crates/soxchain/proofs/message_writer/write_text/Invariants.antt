use Rattle.std.proofs.Common.{◌≡◌, ◌-◌, ◌≤◌, length, take}
use Rattle.std.specs.Io.KnownBytes.{Appends}
use Rattle.soxchain.proofs.message_writer.write_text.Given as goal

abbrev pub invariant-loop-delivered : goal.invariant-loop-delivered
invariant-loop-delivered g l = record {
  within : l.delivered ≤ length l.text;
  took : Appends (g.M.ByteOut.writes.taken l.fn.messages) (g.M.ByteOut.writes.taken l.messages) (take l.delivered l.text);
  unfailed : g.M.ByteOut.writes.failures l.messages ≡ g.M.ByteOut.writes.failures l.fn.messages;
}

abbrev pub decreases-loop-delivered : goal.decreases-loop-delivered
decreases-loop-delivered g l = length l.text - l.delivered
