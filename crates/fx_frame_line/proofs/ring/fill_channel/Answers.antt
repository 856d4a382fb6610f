use Rattle.std.proofs.Common.{rules, ◌+◌, ◌*◌, ◌<◌, ◌∙◌, ℕ, length, refl, arith}
use Rattle.fx_frame_base.proofs.ChannelPlaces.{others-stay, put-more, within-frames}
use Rattle.fx_frame_line.proofs.ring.fill_channel.Goals as goal

pub offset_bounds-out-k : goal.offset_bounds-out-k
offset_bounds-out-k g c =
    let inside : c.loop-k.k * c.args.apart + c.args.at < length c.loop-k.out = omega (arith, within-frames c.args.apart c.args.at c.loop-k.k c.args.count c.requires.at c.loop-k-test.true) in
    search rules

pub loop-k-preserved : goal.loop-k-preserved
loop-k-preserved g c =
    let k : ℕ = c.loop-k.k in
    let at : ℕ = k * c.args.apart + c.args.at in
    let old = c.loop-k.invariant in
    let inside : at < length c.loop-k.out = omega (arith, within-frames c.args.apart c.args.at k c.args.count c.requires.at c.loop-k-test.true) in
    record {
      put = λ i l d. put-more d (λ _. c.args.sample) c.loop-k.out c.args.apart c.args.at k at c.args.sample c.requires.at refl inside refl (λ i l. old.put i l d) i l;
      others = λ p other d. others-stay d c.loop-k.out c.args.apart c.args.at c.args.count k at p c.args.sample refl c.loop-k-test.true other ∙ old.others p other d;
    }
