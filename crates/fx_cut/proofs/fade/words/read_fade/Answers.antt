use Rattle.std.proofs.Common.{◌≡◌, true}
use Rattle.fx_cut.specs.FadeWords.{is_fade}
use Rattle.fx_plan_words.specs.Faults.{word_texts}
use Rattle.fx_cut.proofs.FadeWords.{fade_fits}
use Rattle.fx_plan_words.proofs.Reading.{IfOk-finds}
use Rattle.fx_cut.proofs.fade.words.read_fade.Goals as goal

pub returns-clause-fit : goal.returns-clause-fit
returns-clause-fit c = IfOk-finds (λ fade. is_fade fade ≡ true) c.read_lengths.result _ _ c.read_lengths.ensures (fade_fits c.args.rate (word_texts c.in-Some.lengths.now))
