use Rattle.std.proofs.Common.{refl, ◌≡◌, ◌∷◌, ◌-◌, [], ap, sym, ◌∙◌, cond, length, map, pos, replicate, take, List, ℤ}
use Rattle.std.proofs.lemmas.List.{take_at}
use Rattle.fx_cut.specs.Fade.{faded_frame, weighted, weights}
use Rattle.fx_frame_base.specs.Given.{plain}
use Rattle.fx_frame_base.specs.Rounded.{unclipped}
use Rattle.fx_cut.proofs.Weighing.{given-plain}
use Rattle.fx_cut.proofs.fade.PreparedFade.faded.Goals as goal

pub returns-clause-value : goal.returns-clause-value
returns-clause-value c =
    let frame : List ℤ = c.args.frame in
    let many : c.channels-channels.result ≡ length frame = c.channels-channels.ensures.count in
    let came : take (length frame) c.places-samples.result ≡ frame = ap (take (length frame)) c.places-samples.ensures.places ∙ take_at frame (replicate (16 - length frame) (pos 0)) (length frame) refl in
    let weighed : map (weighted (weights c.args.self.now.shape c.args.stop c.args.place)) frame ≡ map unclipped c.weigh.new.samples = rw (many, came) at c.weigh.ensures.samples in
    let long : length c.weigh.new.samples ≡ length frame = c.weigh.auto.samples ∙ ap (λ n. length (take n c.places-samples.result)) many ∙ ap length came in
    let given : c.of_first.result ≡ c.weigh.new.samples = c.of_first.ensures ∙ rw many (take_at c.weigh.new.samples _ (length frame) long) in
    let made = given-plain _ c.weigh.new.samples weighed in
    let same : faded_frame c.args.self.now.shape c.args.stop c.args.place frame ≡ plain c.of_first.result = made ∙ ap plain (sym given) in
    ap (λ g. g ∷ []) (sym same) ∙ ap (λ b. cond b (faded_frame c.args.self.now.shape c.args.stop c.args.place frame ∷ []) []) c.if-not-is_ahead.ensures
