use Rattle.std.proofs.Common.{◌∙◌, refl, sym}
use Rattle.fx_cut.specs.TrimDetermined.{kept-determined}
use Rattle.fx_cut.proofs.trim.CutsSelection.select.Goals as goal

pub returns-then-not-keeps-clause-value : goal.returns-then-not-keeps-clause-value
returns-then-not-keeps-clause-value c =
    let left = kept-determined c.args.self.now c.args.place ∙ sym c.if-not-keeps.ensures.kept in
    rw left refl

pub returns-clause-value : goal.returns-clause-value
returns-clause-value c =
    let kept = kept-determined c.args.self.now c.args.place ∙ sym c.if-not-keeps.ensures.kept in
    rw kept refl
