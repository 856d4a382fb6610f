use Rattle.std.proofs.Common.{pos, rules, ◌≡◌, ◌+◌, ◌-◌, ◌<◌, ◌∙◌, [], ap, sym, ℕ, ℤ, Bool, length, take, drop, arith, add-one, get_or, to_z, of_z, w32}
use Rattle.std.proofs.Math.Nat.{suc-mul}
use Rattle.fx_frame_base.specs.Frame.{Samples}
use Rattle.fx_frame_base.specs.Lists.{pieces}
use Rattle.fx_frame_base.proofs.Pieces.{get_or-pieces}
use Rattle.fx_tap_pointwise.specs.Remix.{remixed_sample}
use Rattle.fx_frame_base.proofs.ChannelPlaces.{others-stay, put-more, within-frames}
use Rattle.fx_frame_base.proofs.Rounds.{clips_of-next, byte_is, byte-le}
use Rattle.fx_tap_pointwise.proofs.remix.Mix.channel_by_frames.Goals as goal

pub frames-preserved : goal.frames-preserved
frames-preserved c =
    let k : ℕ = c.frames._turn in
    let ins : ℕ = c.args.shape.channels in
    let outs : ℕ = c.args.place.channels in
    let old = c.frames.invariant in
    let inside : k < c.args.shape.count = c.frames-test.true in
    let f : ℕ → ℤ × Bool = λ i. remixed_sample c.args.self.now (get_or (pieces ins c.args.shape.count c.args.frames.now) i []) in
    let x : Samples = take ins (drop c.frames.from c.args.frames.now) in
    let width : c.frames.from + ins - c.frames.from ≡ ins = omega arith in
    let here : x ≡ get_or (pieces ins c.args.shape.count c.args.frames.now) k [] = ap (λ n. take ins (drop n c.args.frames.now)) old.from_is ∙ sym (get_or-pieces ins c.args.shape.count c.args.frames.now k [] inside) in
    let v : c.sample-sample.result ≡ f k = (rw width at c.sample-sample.ensures) ∙ ap (remixed_sample c.args.self.now) here in
    let back : to_z w32 (of_z w32 c.sample-sample.result.0) ≡ c.sample-sample.result.0 = search rules in
    let one = byte-le c.sample-sample.result.1 in
    let far = within-frames outs c.args.place.channel k c.args.shape.count c.requires.channel inside in
    let in_out : c.frames.at < length c.frames.out = omega (arith, far, old.at_is, c.requires.out, c.frames.auto.out) in
    let y : ℤ = c.sample-sample.result.0 in
    rw back
    record {
      from_is = omega (arith, old.from_is, suc-mul k ins, add-one k);
      at_is = omega (arith, old.at_is, suc-mul k outs, add-one k);
      put = put-more (pos 0) (λ i. (f i).0) c.frames.out outs c.args.place.channel k c.frames.at y c.requires.channel old.at_is in_out (ap (λ r. r.0) v) old.put;
      others = λ p other. others-stay (pos 0) c.frames.out outs c.args.place.channel c.args.shape.count k c.frames.at p y old.at_is c.frames-test.true other ∙ old.others p other;
      counted = ap (λ m. c.frames.clips + m) (c.from-clips.ensures ∙ byte_is c.sample-sample.result.1) ∙ clips_of-next f k c.frames.clips c.sample-sample.result.1 old.counted (ap (λ r. r.1) v);
      bound = omega (arith, c.from-clips.ensures, one, old.bound);
    }
