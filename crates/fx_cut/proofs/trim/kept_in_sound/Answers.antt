-- Position by position, the frames up to the next one are counted, where they are kept.
use Rattle.std.proofs.Common.{◌≡◌, ◌+◌, max, min, refl, ap, ◌∙◌, arith}
use Rattle.fx_cut.proofs.TrimCount.{whole-more, whole-over}
use Rattle.fx_cut.proofs.trim.kept_in_sound.Goals as goal

pub returns : goal.returns
returns c =
    let i = c.positions.invariant in
    ap (λ k. c.positions.kept + k) c.kept_between.ensures
    ∙ whole-over c.args.positions.now c.args.frames c.positions.at-index c.positions.kept c.positions.last c.args.end c.positions.is_kept c.positions-test.false i.counted

pub positions-preserved : goal.positions-preserved
positions-preserved c =
    let i = c.positions.invariant in
    let last : c.max-next.result ≡ max c.positions.last c.min.result = c.max-next.ensures in
    let next = last ∙ ap (λ m. max c.positions.last m) (c.min.ensures ∙ ap (λ p. min c.args.end p) c.place_in-position.ensures) in
    let s = whole-more c.args.positions.now c.args.frames c.positions.at-index c.positions.kept c.positions.last c.args.end c.max-next.result _ c.positions.is_kept c.positions-test.true refl i.within next i.bound i.counted in
    record {
      counted = rw c.kept_between-kept.ensures (s.0);
      within = let w = i.within in omega arith;
      bound = rw c.kept_between-kept.ensures (s.1);
    }
