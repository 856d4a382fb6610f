use Rattle.std.proofs.Common.{rules, ◌≡◌, ◌+◌, ◌*◌, ◌<◌, ◌∙◌, ap, ℕ, ℤ, pos, length, arith, slice_index_or, FitsSigned, add-one, below_more, to_z, of_z, w32}
use Rattle.std.proofs.Math.Nat.{suc-mul}
use Rattle.fx_frame_base.proofs.ChannelPlaces.{others-stay, put-more, within-frames}
use Rattle.fx_tap_pointwise.proofs.channels.place_channel.Goals as goal

pub frames-preserved : goal.frames-preserved
frames-preserved c =
    let k : ℕ = c.frames._turn in
    let old = c.frames.invariant in
    let y : ℤ = slice_index_or c.args.from.now c.frames.read (pos 0) in
    let there : y ≡ slice_index_or c.args.from.now (k * c.args.shape.channels + c.args.channel) (pos 0) = ap (λ i. slice_index_or c.args.from.now i (pos 0)) old.read_is in
    let fits : FitsSigned w32 y = search rules in
    let back : to_z w32 (of_z w32 y) ≡ y = search rules in
    let far = within-frames c.args.place.channels c.args.place.channel k c.args.shape.count c.requires.place c.frames-test.true in
    let inside : c.frames.at < length c.frames.to = omega (arith, far, old.at_is, c.requires.to, c.frames.auto.to) in
    rw back
    record {
      read_is = omega (arith, old.read_is, suc-mul k c.args.shape.channels, add-one k);
      at_is = omega (arith, old.at_is, suc-mul k c.args.place.channels, add-one k);
      put = put-more (pos 0) (λ i. slice_index_or c.args.from.now (i * c.args.shape.channels + c.args.channel) (pos 0)) c.frames.to c.args.place.channels c.args.place.channel k c.frames.at y c.requires.place old.at_is inside there old.put;
      others = λ p other. others-stay (pos 0) c.frames.to c.args.place.channels c.args.place.channel c.args.shape.count k c.frames.at p y old.at_is c.frames-test.true other ∙ old.others p other;
      samples = below_more _ _ old.samples (rw (← there) fits);
    }
