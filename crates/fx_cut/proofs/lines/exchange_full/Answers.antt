use Rattle.std.proofs.Common.{◌≡◌, ◌∙◌, sym}
use Rattle.fx_frame_base.proofs.Pieces.{length-pieces}
use Rattle.fx_cut.proofs.Onto.{none-stay}
use Rattle.fx_cut.proofs.lines.exchange_full.Goals as goal

pub returns-then-capacity-eq0-clause-fallen : goal.returns-then-capacity-eq0-clause-fallen
returns-then-capacity-eq0-clause-fallen c =
    let short : c.args.line.now.capacity ≡ 0 = sym c.capacity-capacity.ensures.capacity ∙ c.if-capacity-eq0.true in
    (none-stay c.args.line.now _ c.args.count c.capacity-capacity.ensures.line short (length-pieces c.args.line.now.channels c.args.count c.args.samples.now)).1

pub returns-then-capacity-eq0-clause-items : goal.returns-then-capacity-eq0-clause-items
returns-then-capacity-eq0-clause-items c =
    let short : c.args.line.now.capacity ≡ 0 = sym c.capacity-capacity.ensures.capacity ∙ c.if-capacity-eq0.true in
    (none-stay c.args.line.now _ c.args.count c.capacity-capacity.ensures.line short (length-pieces c.args.line.now.channels c.args.count c.args.samples.now)).0
