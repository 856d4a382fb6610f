use Rattle.std.proofs.Common.{rules, ◌+◌, ◌*◌, ◌<◌, ◌∙◌, ℕ, length, get_or, refl, arith}
use Rattle.std.proofs.lemmas.List.{get_or_default}
use Rattle.fx_frame_base.proofs.ChannelPlaces.{others-stay, put-more, within-frames}
use Rattle.fx_frame_line.proofs.ring.copy_every.Goals as goal

pub offset_bounds-out-k : goal.offset_bounds-out-k
offset_bounds-out-k g c =
    let inside : c.loop-k.k * c.args.apart + c.args.at < length c.loop-k.out = omega (arith, within-frames c.args.apart c.args.at c.loop-k.k c.args.count c.requires.at c.loop-k-test.true) in
    search rules

pub loop-k-preserved : goal.loop-k-preserved
loop-k-preserved g c =
    let k : ℕ = c.loop-k.k in
    let at : ℕ = k * c.args.apart + c.args.at in
    let old = c.loop-k.invariant in
    let inside : at < length c.loop-k.out = omega (arith, within-frames c.args.apart c.args.at k c.args.count c.requires.at c.loop-k-test.true) in
    record {
      put = λ i l d. put-more d (λ i. get_or c.args.source.now (c.args.from + i * c.args.step) d) c.loop-k.out c.args.apart c.args.at k at c.index-source-from.result c.requires.at refl inside (c.index-source-from.is ∙ get_or_default c.args.source.now (c.args.from + k * c.args.step) c.index-source-from.result d (c.requires.source k c.loop-k-test.true)) (λ i l. old.put i l d) i l;
      others = λ p other d. others-stay d c.loop-k.out c.args.apart c.args.at c.args.count k at p c.index-source-from.result refl c.loop-k-test.true other ∙ old.others p other d;
    }
