use Rattle.std.proofs.Common.{◌≡◌, ◌+◌, ◌-◌, length}
use Rattle.fx_sound.specs.Source.{Stays, Takes}
use Rattle.fx_sound.specs.Output.{SendsOn, bytes_put}
use Rattle.fx_chain_run.specs.Waiting.{AsksOn}
use Rattle.fx_chain_run.proofs.reading.fetch.Given as goal

abbrev pub invariant-loop-source : goal.invariant-loop-source
invariant-loop-source g l = record {
  stays : Stays g.R.ReadBeside.reads.rest l.initial.source l.source;
  delivered : Takes g.R.ReadBeside.reads.delivered l.initial.source l.source 0;
  reads : g.R.ReadBeside.reads.failures l.source.reader ≡ g.R.ReadBeside.reads.failures l.initial.source.reader;
  sent : SendsOn (g.W.ByteOut.writes.taken l.initial.writer) (g.W.ByteOut.writes.taken l.writer) l.initial.output l.output;
  count : bytes_put l.output ≡ bytes_put l.initial.output;
  asked : AsksOn g.R.ReadBeside.asked l.initial.source l.source l.want (g.W.ByteOut.writes.taken l.initial.writer) l.initial.output (λ more. length l.source.bytes ≡ length l.initial.source.bytes + more);
  writes : g.W.ByteOut.writes.failures l.writer ≡ g.W.ByteOut.writes.failures l.initial.writer;
}

abbrev pub decreases-loop-source : goal.decreases-loop-source
decreases-loop-source g l = l.want - length l.source.bytes
