use Rattle.std.proofs.Common.{◌∙◌, ap, arith}
use Rattle.fx_chain_flow.specs.Parts.{Parts}
use Rattle.fx_frame_base.specs.Holds.{recipes}
use Rattle.fx_chain_run.proofs.Draining.{given_by-bound}
use Rattle.fx_chain_run.proofs.pump.end_flow.Goals as goal

pub returns-clause-free : goal.returns-clause-free
returns-clause-free g c =
    let drained = c.in_ok-drain.ensures in
    let stay = drained.drained.gives.recipes_stay ∙ ap (λ (h : Parts g.row.S.Denot). recipes g.S.Stage.acts h.stages) c.end.ensures.value in
    let bound = given_by-bound g.S.Stage.acts g.met.S.Stage.rises c.args.flow.now c.drain.new.flow stay c.requires.fits c.stages-stages.ensures.maximum c.stages-stages.ensures.sound.bound in
    omega (arith, bound, drained.free)
