use Rattle.std.proofs.Common.{◌∙◌, sym}
use Rattle.fx_chain_flow.proofs.Laws.{given_by-last}
use Rattle.fx_chain_flow.proofs.moves.given_by_last.Goals as goal

pub returns-in-Some : goal.returns-in-Some
returns-in-Some g c = rw c.in-Some.ensures.cases.0 (c.counter_values.ensures.given ∙ sym (given_by-last g.S.Stage.acts c.args.left c.in-Some.field-0-1.now c.in-Some.last.now))
