use Rattle.std.proofs.Common.{map}
use Rattle.fx_plan_effects.specs.Effects.{act}
use Rattle.fx_plan_effects.proofs.Lasting.{within-fewer, work-rises}
use Rattle.fx_plan.proofs.accepted.Plan.work.Goals as goal

pub work-requires-clause-short : goal.work-requires-clause-short
work-requires-clause-short c =
    rw c.deref.ensures.value (within-fewer (map act c.args.self.now.effects.items) c.args.frames 1099511627776 c.requires c.args.self.now.short)

pub returns-clause-rises : goal.returns-clause-rises
returns-clause-rises c = λ fewer h. rw (c.work.ensures.value, c.deref.ensures.value) (work-rises (map act c.args.self.now.effects.items) fewer c.args.frames h)
