-- Position by position, the frames up to the next one are counted, where they are kept.
use Rattle.std.proofs.Common.{◌≡◌, ◌+◌, max, min, refl, ap, ◌∙◌, arith}
use Rattle.fx_cut.proofs.TrimCount.{whole-more, whole-over}
use Rattle.fx_plan_lengths.proofs.lengths.kept.Goals as goal

pub returns : goal.returns
returns c =
    let i = c.loop-position.invariant in
    ap (λ k. c.loop-position.kept + k) c.between.ensures
    ∙ whole-over c.args.positions.now c.args.frames c.loop-position.position-index c.loop-position.kept c.loop-position.from c.args.frames c.loop-position.is_keeping c.loop-position-test.false i.counted

pub loop-position-preserved : goal.loop-position-preserved
loop-position-preserved c =
    let i = c.loop-position.invariant in
    let last : c.max-to.result ≡ max c.loop-position.from c.min.result = c.max-to.ensures in
    let next = last ∙ ap (λ m. max c.loop-position.from m) (c.min.ensures ∙ ap (λ p. min c.args.frames p) c.place.ensures) in
    let s = whole-more c.args.positions.now c.args.frames c.loop-position.position-index c.loop-position.kept c.loop-position.from c.args.frames c.max-to.result _ c.loop-position.is_keeping c.loop-position-test.true refl i.within next i.bound i.counted in
    record {
      counted = rw c.between-kept.ensures (s.0);
      within = let w = i.within in omega arith;
      bound = rw c.between-kept.ensures (s.1);
    }
