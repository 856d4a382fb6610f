use Rattle.std.proofs.Common.{◌∙◌, ap, sym}
use Rattle.fx_cut.specs.Fade.{stop_in, until}
use Rattle.fx_cut.specs.FadeDetermined.{until-count}
use Rattle.fx_cut.proofs.fade.PreparedFadeSelection.given_before.Goals as goal

pub returns : goal.returns
returns c = c.frames_until.ensures ∙ ap (λ stop. until stop c.args.place) c.stop.ensures ∙ sym (until-count (stop_in c.args.frames c.args.self.now.shape.stop) c.args.place)
