use Rattle.std.proofs.Common.{◌∙◌, sym}
use Rattle.fx_cut.specs.TrimDetermined.{kept-determined}
use Rattle.fx_cut.proofs.trim.CutsSelection.select_over.Goals as goal

pub returns-clause-given : goal.returns-clause-given
returns-clause-given c = c.keeps.ensures.kept ∙ sym (kept-determined c.args.self.now c.args.place)
