use Rattle.std.proofs.Common.{◌≡◌, ◌∙◌, [], refl, sym, arith}
use Rattle.std.proofs.lemmas.List.{nil_from_length}
use Rattle.fx_cut.proofs.lines.push_over.Goals as goal

pub returns-then-capacity-eq0-clause-items : goal.returns-then-capacity-eq0-clause-items
returns-then-capacity-eq0-clause-items c =
    let within = c.capacity.ensures.line.within in
    let short : c.args.line.now.capacity ≡ 0 = sym c.capacity.ensures.capacity ∙ c.if-capacity-eq0.true in
    let none : c.args.line.now.items ≡ [] = nil_from_length c.args.line.now.items (omega (arith, within, short)) in
    rw (short, none) refl

pub returns-then-capacity-eq0-clause-oldest : goal.returns-then-capacity-eq0-clause-oldest
returns-then-capacity-eq0-clause-oldest c =
    let within = c.capacity.ensures.line.within in
    let short : c.args.line.now.capacity ≡ 0 = sym c.capacity.ensures.capacity ∙ c.if-capacity-eq0.true in
    let none : c.args.line.now.items ≡ [] = nil_from_length c.args.line.now.items (omega (arith, within, short)) in
    rw (short, none) refl
