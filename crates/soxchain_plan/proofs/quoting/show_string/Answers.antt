use Rattle.soxchain_plan.proofs.ShownLemmas.{json_string-parts}
use Rattle.soxchain_plan.proofs.Writing.{appends_then}
use Rattle.soxchain_plan.proofs.quoting.show_string.Goals as goal

pub returns : goal.returns
returns g c = appends_then _ _ _ _ _ _ _ (json_string-parts c.args.text.now c.without_line_feed-line.result.now c.loop-byte.byte-index c.without_line_feed-line.ensures c.loop-byte-test.false) c.loop-byte.invariant c.write-2.ensures.bytes
