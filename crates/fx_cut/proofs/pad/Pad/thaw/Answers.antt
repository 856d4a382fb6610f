use Rattle.std.proofs.Common.{ap, refl, inl, inr, arith}
use Rattle.std.proofs.lemmas.Grind.{common_steps}
use Rattle.std.proofs.lemmas.Result.{err_from_is_err_and}
use Rattle.fx_cut.proofs.PadThaw.{frozen-count, stored-of, IsPad-thawed, same-pad}
use Rattle.fx_cut.proofs.pad.Pad.thaw.Goals as goal

pub returns-then-not-is_count-clause-thawed : goal.returns-then-not-is_count-clause-thawed
returns-then-not-is_count-clause-thawed c = λ s is recipe frozen.
    absurd (c.if-not-is_count.ensures.other refl (frozen-count s c.args.pads.now c.args.numbers.now is (ap (λ r. r.pads) recipe) frozen.counted))

pub returns-in_err-line-clause-thawed : goal.returns-in_err-line-clause-thawed
returns-in_err-line-clause-thawed c = λ s is recipe frozen.
    let stored = stored-of s c.args.channels c.args.pads.now c.args.frames.now c.args.numbers.now is recipe frozen in
    let refused = rw c.max_pad_end-capacity.ensures at c.in_err-line.ensures.refused in
    let fault = err_from_is_err_and c.from_residual.result c.from_residual.ensures.1 in
    elim refused [ inl e ↦ rw (fault.1, fault.2) e | inr p ↦ absurd (p.1 s.line s.core.pending stored) ]

pub invariant_of-result : goal.invariant_of-result
invariant_of-result c =
    rw (c.restored.ensures, c.of.ensures, c.in-Ok.ensures.items, c.new-copies.ensures.items)
    (IsPad-thawed c.args.channels _ _ _ _ _ _ _ c.args.pads.now c.args.frames.now _ _ c.in_ok-line.ensures.found c.max_pad_end-capacity.ensures c.requires.pads c.if-taken-gt-MAX_TAKEN.false c.if-held-taken.false c.if-held-frames.false (c.if-not-is_count.ensures.count refl))

pub returns-clause-thawed : goal.returns-clause-thawed
returns-clause-thawed c = λ s is recipe frozen.
    let stored = stored-of s c.args.channels c.args.pads.now c.args.frames.now c.args.numbers.now is recipe frozen in
    let only = (rw c.max_pad_end-capacity.ensures at c.in_ok-line.ensures.only) s.line s.core.pending stored in
    rw (c.restored.ensures, c.of.ensures, c.in-Ok.ensures.items, c.new-copies.ensures.items)
    (same-pad s c.args.channels c.args.pads.now c.args.numbers.now _ _ is recipe frozen.counted only.0 only.1)

-- The prover finds these too, but searches long.
pub returns-clause-frozen : goal.returns-clause-frozen
returns-clause-frozen c = rw c.restored.ensures (grind (arith, common_steps))
