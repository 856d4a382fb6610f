use Rattle.std.proofs.Common.{◌≡◌, ◌+◌, ◌*◌, ◌≤◌, length}
use Rattle.fx_sound.specs.Sound.{size_of}
use Rattle.fx_chain_run.specs.Pump.{Pumped}
use Rattle.fx_chain_run.proofs.Waiting.{WaitsAt}
use Rattle.fx_chain_run.proofs.pump.pump.Given as goal

abbrev pub invariant-loop-turn : goal.invariant-loop-turn
invariant-loop-turn g l = record {
  turns : l._turn ≤ l.progress.frames;
  pumped : Pumped g.S.Stage.acts g.R.ReadBeside.reads
      (record { flow = l.fn.flow; source = l.fn.source; progress = l.fn.progress; coding = l.fn.frame_writer.coding; head = l.head; wrote = g.W.ByteOut.writes.taken l.fn.writer })
      l.flow l.source l.progress l.frame_writer.coding l.frame_writer.clips l.frame_writer.output (g.W.ByteOut.writes.taken l.writer);
  waited : WaitsAt g.S.Stage.acts g.R.ReadBeside.reads g.R.ReadBeside.asked
      (record { flow = l.fn.flow; source = l.fn.source; progress = l.fn.progress; coding = l.fn.frame_writer.coding; head = l.head; wrote = g.W.ByteOut.writes.taken l.fn.writer })
      (l.progress.frames * size_of l.fn.progress + length l.source.bytes) l.source.short l.source.reader;
  writes : g.W.ByteOut.writes.failures l.writer ≡ g.W.ByteOut.writes.failures l.fn.writer;
}
