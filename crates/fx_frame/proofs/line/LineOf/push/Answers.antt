use Rattle.std.proofs.Common.{ap, ◌≡◌, [], ◌∷◌, sym, ◌∙◌}
use Rattle.std.specs.List.{All}
use Rattle.std.proofs.lemmas.List.Elements.{All-nil, All-cons}
use Rattle.fx_frame.proofs.Lines.{two-samples, All-pushed, mapped}
use Rattle.fx_frame.proofs.line.LineOf.push.Goals as goal

pub invariant_of-self-in-2 : goal.invariant_of-self-in-2
invariant_of-self-in-2 g c =
    let a = c.seen-in-2.result in
    let b = c.seen-in-2-2.result in
    let both = All-cons g.T.Sample.Fits a (b ∷ []) c.seen-in-2.ensures.fits (All-cons g.T.Sample.Fits b [] c.seen-in-2-2.ensures.fits (All-nil g.T.Sample.Fits)) in
    All-pushed (All g.T.Sample.Fits) c.self.inside.ring (a ∷ b ∷ []) _ c.self.invariant both c.push_two.ensures.items

pub returns-in-2-clause-oldest : goal.returns-in-2-clause-oldest
returns-in-2-clause-oldest g c =
    let a = c.seen-in-2.result in
    let b = c.seen-in-2-2.result in
    let got = mapped (λ p. p.0 ∷ p.1 ∷ []) c.push_two.result c.map-in-2.result c.map-in-2.ensures.cases in
    let whole : c.args.frame ≡ a ∷ b ∷ [] = two-samples c.args.frame g.T.Sample.silent_sample (c.requires ∙ ap (λ v. v.channels) (sym c.self.view_is) ∙ sym c.channels.ensures.channels ∙ c.in-2.is) ∙ (cc) in
    rw (← c.self.view_is, whole) (got ∙ c.push_two.ensures.oldest)
