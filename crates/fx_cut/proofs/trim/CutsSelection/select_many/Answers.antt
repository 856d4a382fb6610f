use Rattle.fx_frame_base.specs.Lists.{pieces}
use Rattle.fx_cut.specs.TrimDetermined.{plain-along}
use Rattle.fx_cut.proofs.trim.CutsSelection.select_many.Goals as goal

pub returns-clause-frames : goal.returns-clause-frames
returns-clause-frames c = plain-along c.args.self.now c.args.place (pieces c.args.channels c.args.count c.args.samples.now)
