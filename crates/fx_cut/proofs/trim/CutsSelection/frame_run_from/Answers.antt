use Rattle.std.proofs.Common.{◌+◌, ◌∙◌}
use Rattle.fx_cut.specs.TrimDetermined.{kept-determined}
use Rattle.fx_cut.proofs.trim.CutsSelection.frame_run_from.Goals as goal

pub returns-clause-alike : goal.returns-clause-alike
returns-clause-alike c =
    let alike = rw c.deref.ensures.value at c.frame_run_from.ensures.alike in
    rw (← c.self.view_is) (λ n h. kept-determined (record { channels = c.self.inside.channels; positions = c.self.inside.positions.items }) (c.args.place + n) ∙ alike n h)
