use Rattle.std.proofs.Common.{pos, rules, ◌≡◌, ◌+◌, ◌-◌, ◌<◌, ◌∙◌, ap, ℕ, ℤ, Bool, List, length, drop, arith, add-one, to_z, of_z, w32}
use Rattle.std.proofs.Math.Nat.{suc-mul}
use Rattle.fx_fixed.specs.Rounding.{rounding}
use Rattle.fx_fixed.specs.declared.gains.TheConstants.{UNIT}
use Rattle.fx_tap_sums.specs.Products.{sum_of_products}
use Rattle.fx_frame_base.proofs.ChannelPlaces.{others-stay, put-more, within-frames}
use Rattle.fx_tap_sums.proofs.KernelLaws.{taken-products}
use Rattle.fx_frame_base.proofs.Rounds.{clips_of-next, byte_is, byte-le}
use Rattle.fx_tap_fir.proofs.kernel.Kernel.weigh_channel.Goals as goal

pub frames-preserved : goal.frames-preserved
frames-preserved c =
    let k : ℕ = c.frames.place in
    let b : List ℤ = c.args.self.now in
    let window : List ℤ = c.args.window.now in
    let old = c.frames.invariant in
    let f : ℕ → ℤ × Bool = λ i. rounding (sum_of_products (drop i window) b) UNIT in
    let n : ℕ = k + c.len-taps.result - k in
    let taps : n ≡ length b = omega (arith, c.len-taps.ensures) in
    let v : c.weigh_from-sample.result ≡ f k = c.weigh_from-sample.ensures ∙ ap (λ z. rounding z UNIT) (taken-products (drop k window) b n taps) in
    let back : to_z w32 (of_z w32 c.weigh_from-sample.result.0) ≡ c.weigh_from-sample.result.0 = search rules in
    let one = byte-le c.weigh_from-sample.result.1 in
    let far = within-frames c.args.channels c.args.channel k c.args.count c.requires.channel c.frames-test.true in
    let inside : c.frames.at < length c.frames.out = omega (arith, far, old.at_is, c.requires.out, c.frames.auto.out) in
    let y : ℤ = c.weigh_from-sample.result.0 in
    rw back
    record {
      at_is = omega (arith, old.at_is, suc-mul k c.args.channels, add-one k);
      put = put-more (pos 0) (λ i. (f i).0) c.frames.out c.args.channels c.args.channel k c.frames.at y c.requires.channel old.at_is inside (ap (λ r. r.0) v) old.put;
      others = λ p other. others-stay (pos 0) c.frames.out c.args.channels c.args.channel c.args.count k c.frames.at p y old.at_is c.frames-test.true other ∙ old.others p other;
      counted = ap (λ m. c.frames.clips + m) (c.from-clips.ensures ∙ byte_is c.weigh_from-sample.result.1) ∙ clips_of-next f k c.frames.clips c.weigh_from-sample.result.1 old.counted (ap (λ r. r.1) v);
      bound = omega (arith, c.from-clips.ensures, one, old.bound);
    }
