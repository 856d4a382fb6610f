use Rattle.std.proofs.Common.{rules, ◌≡◌, ◌∙◌, get_or, of_z, to_z, pos}
use Rattle.std.specs.Int.{w32}
use Rattle.fx_frame_base.proofs.Puts.{set-one, set-two}
use Rattle.fx_frame_base.proofs.feed.copy_samples.Goals as goal

pub returns-then-from-eq1 : goal.returns-then-from-eq1
returns-then-from-eq1 c =
    let same : to_z w32 (of_z w32 (get_or c.args.from.now 0 (pos 0))) ≡ get_or c.args.from.now 0 (pos 0) = search rules in
    rw same (set-one c.args.from.now c.args.to.now (pos 0) c.if-from-eq1.true (c.requires ∙ c.if-from-eq1.true))

pub returns-then-from-eq2 : goal.returns-then-from-eq2
returns-then-from-eq2 c =
    let first : to_z w32 (of_z w32 (get_or c.args.from.now 0 (pos 0))) ≡ get_or c.args.from.now 0 (pos 0) = search rules in
    let second : to_z w32 (of_z w32 (get_or c.args.from.now 1 (pos 0))) ≡ get_or c.args.from.now 1 (pos 0) = search rules in
    rw (first, second) (set-two c.args.from.now c.args.to.now (pos 0) c.if-from-eq2.true (c.requires ∙ c.if-from-eq2.true))
