use Rattle.std.proofs.Common.{rules}
use Rattle.soxchain_plan.proofs.outline.text_of.Goals as goal

pub returns : goal.returns
returns c = (c.in_ok-outline.outline, search rules, search rules, search rules)
