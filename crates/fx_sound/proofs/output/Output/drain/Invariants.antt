use Rattle.std.proofs.Common.{◌≡◌, ◌<◌, false, length}
use Rattle.fx_sound.specs.Output.{SendsOn, bytes_put}
use Rattle.fx_sound.proofs.output.Output.drain.Given as goal

abbrev pub invariant-loop-self : goal.invariant-loop-self
invariant-loop-self g l = record {
  sent : SendsOn (g.W.ByteOut.writes.taken l.initial.writer) (g.W.ByteOut.writes.taken l.writer) l.initial.self l.self;
  count : bytes_put l.self ≡ bytes_put l.initial.self;
  unflushed : length l.self.bytes < length l.initial.self.bytes → g.W.ByteOut.writes.flushed l.writer ≡ false;
  failures : g.W.ByteOut.writes.failures l.writer ≡ g.W.ByteOut.writes.failures l.initial.writer;
}

abbrev pub decreases-loop-self : goal.decreases-loop-self
decreases-loop-self g l = length l.self.bytes
