use Rattle.std.proofs.Common.{◌∙◌, refl}
use Rattle.fx_fixed.proofs.number.Decimal.nearest_parts.Goals as goal
use Rattle.fx_fixed.proofs.Powers.{raised_parts, lowered_parts, not_both}

pub returns-then-raised-lowered : goal.returns-then-raised-lowered
returns-then-raised-lowered c = λ body shown. raised_parts c.args.self body c.args.decimals c.args.maximum c.raise.result c.requires.raised c.requires.lowered c.requires.limit shown _ _ refl refl c.if-raised-lowered.true c.raise.ensures

pub returns-then-nearest-maximum : goal.returns-then-nearest-maximum
returns-then-nearest-maximum c = λ body shown below.
    let parts_is = lowered_parts c.args.self body c.args.decimals c.requires.raised c.requires.lowered shown _ _ refl refl c.if-raised-lowered.false in
    let value = c.lower-nearest.ensures ∙ parts_is in
    not_both _ _ c.if-nearest-maximum.true (rw value below)

pub returns : goal.returns
returns c = λ body shown.
    let parts_is = lowered_parts c.args.self body c.args.decimals c.requires.raised c.requires.lowered shown _ _ refl refl c.if-raised-lowered.false in
    let value = c.lower-nearest.ensures ∙ parts_is in
    (rw value at c.if-nearest-maximum.false, value)
