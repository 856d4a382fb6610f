use Rattle.std.proofs.Common.{rules, ◌≡◌}
use Rattle.std.proofs.lemmas.Bool.Decides.{Decides-at}
use Rattle.fx_plan.specs.Equality.{same_parts}
use Rattle.fx_plan.proofs.Equal.{plan_exact}
use Rattle.fx_plan.proofs.equality.PlanPartialEq.eq.Goals as goal

pub returns-then-eq-4-clause-exact : goal.returns-then-eq-4-clause-exact
returns-then-eq-4-clause-exact c =
    let is : c.eq-then-eq-4.result ≡ same_parts c.args.self.now c.args.other.now = search rules in
    Decides-at _ _ is (plan_exact c.args.self.now c.args.other.now)

pub returns-else-eq-4-clause-exact : goal.returns-else-eq-4-clause-exact
returns-else-eq-4-clause-exact c =
    let is : c.if-self-other.value ≡ same_parts c.args.self.now c.args.other.now = search rules in
    Decides-at _ _ is (plan_exact c.args.self.now c.args.other.now)
