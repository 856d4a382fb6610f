use Rattle.std.proofs.Common.{◌≡◌, ◌∙◌, ap, inl, inr, rules}
use Rattle.soxchain.proofs.MessageWriterLemmas.{Tells-said}
use Rattle.soxchain.specs.Program.{status_of_line}
use Rattle.fx_plan.specs.Line.{texts}
use Rattle.soxchain_c.specs.Making.{stream_line}
use Rattle.soxchain_c.proofs.planning.make_stream.Goals as goal

pub returns-in-Err-clause-refused : goal.returns-in-Err-clause-refused
returns-in-Err-clause-refused g c = inr (
  c.status_of_fault.ensures ∙ ap status_of_line c.in-Err.ensures.memory,
  Tells-said g.M.ByteOut.writes _ _ _ _ _ c.new-message_writer.ensures (search rules) (rw (c.label_of_line.ensures, c.in-Err.ensures.memory) at c.tell_line.ensures),
)

pub returns-clause-refused : goal.returns-clause-refused
returns-clause-refused g c =
    let line : c.in-Ok.line ≡ stream_line (texts c.args.words.now) = c.in-Ok.ensures.line in
    inl (record {
      refusal = c.in-Err-stream_of.refusal;
      is = rw line at c.in-Err-stream_of.ensures.refused;
      status_is = c.status.ensures;
      delivered = Tells-said g.M.ByteOut.writes _ _ _ _ _ c.new-message_writer.ensures (search rules) (rw line at c.tell_refusal.ensures);
    })
