-- Position by position, the frames up to the next one are counted, where they are kept.
use Rattle.std.proofs.Common.{◌+◌, max, ◌∙◌, ap, arith}
use Rattle.fx_cut.proofs.TrimCount.{count-over, count-end, count-start}
use Rattle.fx_cut.proofs.trim.kept_before.Goals as goal

pub returns-in_default : goal.returns-in_default
returns-in_default c =
    let i = c.positions.invariant in
    ap (λ k. c.positions.kept + k) c.kept_between.ensures
    ∙ count-end c.args.positions.now c.positions.at-index c.positions.kept c.positions.last c.args.end c.in_default.field-0 c.positions.is_kept c.positions-test.true c.in_default.is i.counted

pub positions-preserved : goal.positions-preserved
positions-preserved c =
    let i = c.positions.invariant in
    let next = c.max-next.ensures ∙ ap (λ m. max c.positions.last m) c.min.ensures in
    let s = count-start c.args.positions.now c.positions.at-index c.positions.kept c.positions.last c.args.end c.in-Start.start c.max-next.result c.positions.is_kept c.positions-test.true c.in-Start.is i.within next i.bound i.counted in
    let w = i.within in
    record {
      counted = rw c.kept_between-kept.ensures (s.0);
      within = omega arith;
      bound = rw c.kept_between-kept.ensures (s.1);
    }

pub returns : goal.returns
returns c =
    let i = c.positions.invariant in
    ap (λ k. c.positions.kept + k) c.kept_between-2.ensures
    ∙ count-over c.args.positions.now c.positions.at-index c.positions.kept c.positions.last c.args.end c.positions.is_kept c.positions-test.false i.counted
