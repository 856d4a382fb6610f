use Rattle.std.proofs.Common.{◌≤◌, length, ap, ◌∙◌, arith}
use Rattle.fx_sound.proofs.Held.{skip-turn, Takes-turn}
use Rattle.fx_sound.proofs.source.Source.skip.Goals as goal

pub loop-got-preserved : goal.loop-got-preserved
loop-got-preserved g c =
    let old = c.loop-got.invariant in
    let mid = c.in_ok-hold.ensures in
    let went = c.consume.ensures in
    let count : c.min-n.result ≤ length c.hold.new.self.bytes = omega arith in
    record {
      within = omega arith;
      bytes = λ bytes known. skip-turn g.R.ByteIn.reads.rest c.loop-got.self c.hold.new.self c.consume.new.self bytes c.loop-got.got c.min-n.result (old.bytes bytes known) mid.stays count went.bytes went.reader;
      delivered = Takes-turn g.R.ByteIn.reads.delivered _ _ c.hold.new.self c.consume.new.self c.loop-got.got c.min-n.result old.delivered mid.delivered went.bytes went.reader count;
      failures = ap g.R.ByteIn.reads.failures went.reader ∙ mid.failures ∙ old.failures;
    }
