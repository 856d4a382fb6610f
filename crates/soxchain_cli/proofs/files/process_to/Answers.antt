use Rattle.std.proofs.Common.{refl, arith, inl, inr}
use Rattle.soxchain_cli.proofs.files.process_to.Goals as goal

pub returns-then-status-ne0 : goal.returns-then-status-ne0
returns-then-status-ne0 g c = record {
  left = c.finish_with_head-status.new.output;
  delivered_so_far = c.finish_with_head-status.new.message_writer;
  run_status = c.finish_with_head-status.result.0;
  report = c.finish_with_head-status.ensures.0;
  ran = c.finish_with_head-status.ensures.1;
  stopped = λ _. (refl, refl, refl);
  headed = λ z. absurd (c.if-status-ne0.true z);
}

pub returns-then-write_over : goal.returns-then-write_over
returns-then-write_over g c = record {
  left = c.finish_with_head-status.new.output;
  delivered_so_far = c.finish_with_head-status.new.message_writer;
  run_status = c.finish_with_head-status.result.0;
  report = c.finish_with_head-status.ensures.0;
  ran = c.finish_with_head-status.ensures.1;
  stopped = λ h. absurd (omega arith);
  headed = λ z. inl (refl, rw (c.as_slice.ensures, c.finish_with_head-status.ensures.2) at (c.write_over.ensures.whole c.if-write_over.true), refl);
}

pub returns-else-write_over : goal.returns-else-write_over
returns-else-write_over g c = record {
  left = c.finish_with_head-status.new.output;
  delivered_so_far = c.finish_with_head-status.new.message_writer;
  run_status = c.finish_with_head-status.result.0;
  report = c.finish_with_head-status.ensures.0;
  ran = c.finish_with_head-status.ensures.1;
  stopped = λ h. absurd (omega arith);
  headed = λ z. inr (c.cannot_rewrite.ensures.status, rw (c.as_slice.ensures, c.finish_with_head-status.ensures.2) at (c.write_over.ensures.failed c.if-write_over.false), c.cannot_rewrite.ensures.delivered);
}
