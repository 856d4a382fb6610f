use Rattle.std.proofs.Common.{◌∙◌, sym}
use Rattle.fx_chain_flow.proofs.Laws.{outputs-last}
use Rattle.fx_chain_flow.proofs.moves.last_channels.Goals as goal

pub returns-in-Some : goal.returns-in-Some
returns-in-Some g c = rw c.in-Some.ensures.cases.0 (c.out_channels.ensures ∙ sym (outputs-last g.S.Stage.acts c.args.channels c.in-Some.field-0-1.now c.in-Some.last.now))
