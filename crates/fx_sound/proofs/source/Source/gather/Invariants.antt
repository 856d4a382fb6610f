use Rattle.std.proofs.Common.{◌≡◌, ◌-◌, ◌≤◌, length}
use Rattle.fx_sound.specs.Source.{Stays, Takes}
use Rattle.fx_sound.proofs.source.Source.gather.Given as goal

abbrev pub invariant-loop-self : goal.invariant-loop-self
invariant-loop-self g l = record {
  stays : Stays g.R.ByteIn.reads.rest l.initial.self l.self;
  delivered : Takes g.R.ByteIn.reads.delivered l.initial.self l.self 0;
  failures : g.R.ByteIn.reads.failures l.self.reader ≡ g.R.ByteIn.reads.failures l.initial.self.reader;
  unread : l.want ≤ length l.initial.self.bytes → l.self ≡ l.initial.self;
}

abbrev pub decreases-loop-self : goal.decreases-loop-self
decreases-loop-self g l = l.want - length l.self.bytes
