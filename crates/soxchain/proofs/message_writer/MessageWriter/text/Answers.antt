use Rattle.std.proofs.Common.{refl}
use Rattle.soxchain.proofs.MessageWriterLemmas.{ReportedFront-longer, Delivered-text}
use Rattle.soxchain.proofs.message_writer.MessageWriter.text.Goals as goal

pub returns-then-self : goal.returns-then-self
returns-then-self g c = record {
  same = refl;
  more = λ first count all t. rw c.if-self.true (ReportedFront-longer _ _ _ _ all c.args.text.now (rw c.if-self.true at t));
}

pub returns : goal.returns
returns g c = record {
  same = refl;
  more = λ first count all t. Delivered-text c.write_text-is_whole.result first _ _ count _ _ all c.args.text.now (rw c.if-self.false at t) (rw c.as_bytes.ensures.value at c.write_text-is_whole.ensures);
}
