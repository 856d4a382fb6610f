use Rattle.std.proofs.Common.{rules, ◌≡◌, ◌+◌, ◌<◌, ◌∙◌, ap, ℕ, ℤ, pos, Bool, length, arith, slice_index_or, add-one, to_z, of_z, w32}
use Rattle.std.proofs.Math.Nat.{suc-mul}
use Rattle.fx_fixed.specs.Rounding.{rounding}
use Rattle.fx_fixed.specs.declared.gains.TheConstants.{UNIT}
use Rattle.fx_tap_fir.specs.Split.{joined_split}
use Rattle.fx_frame_base.proofs.ChannelPlaces.{others-stay, put-more, within-frames}
use Rattle.fx_frame_base.proofs.Rounds.{clips_of-next, byte_is, byte-le}
use Rattle.fx_tap_fir.proofs.split.round_joined.Goals as goal

pub frames-preserved : goal.frames-preserved
frames-preserved c =
    let k : ℕ = c.frames.place in
    let old = c.frames.invariant in
    let f : ℕ → ℤ × Bool = λ i. rounding (joined_split (slice_index_or c.args.high.now i (pos 0)) (slice_index_or c.args.low.now i (pos 0))) UNIT in
    let back : to_z w32 (of_z w32 c.rounded-sample.result.0) ≡ c.rounded-sample.result.0 = search rules in
    let v : c.rounded-sample.result ≡ f k = search rules in
    let one = byte-le c.rounded-sample.result.1 in
    let far = within-frames c.args.channels c.args.channel k (length c.args.low.now) c.requires.channel c.frames-test.true in
    let inside : c.frames.at < length c.frames.out = omega (arith, far, old.at_is, c.requires.out, c.frames.auto.out) in
    let y : ℤ = c.rounded-sample.result.0 in
    rw back
    record {
      at_is = omega (arith, old.at_is, suc-mul k c.args.channels, add-one k);
      put = put-more (pos 0) (λ i. (f i).0) c.frames.out c.args.channels c.args.channel k c.frames.at y c.requires.channel old.at_is inside (ap (λ r. r.0) v) old.put;
      others = λ p other. others-stay (pos 0) c.frames.out c.args.channels c.args.channel (length c.args.low.now) k c.frames.at p y old.at_is c.frames-test.true other ∙ old.others p other;
      counted = ap (λ n. c.frames.clips + n) (c.from-clips.ensures ∙ byte_is c.rounded-sample.result.1) ∙ clips_of-next f k c.frames.clips c.rounded-sample.result.1 old.counted (ap (λ r. r.1) v);
      bound = omega (arith, c.from-clips.ensures, one, old.bound);
    }

pub bounds-out-at : goal.bounds-out-at
bounds-out-at c =
    let far = within-frames c.args.channels c.args.channel c.frames.place (length c.args.low.now) c.requires.channel c.frames-test.true in
    omega (arith, far, c.frames.invariant.at_is, c.requires.out, c.frames.auto.out)

pub offset_bounds-out-at : goal.offset_bounds-out-at
offset_bounds-out-at c =
    let far = within-frames c.args.channels c.args.channel c.frames.place (length c.args.low.now) c.requires.channel c.frames-test.true in
    let inside : c.frames.at < length c.frames.out = omega (arith, far, c.frames.invariant.at_is, c.requires.out, c.frames.auto.out) in
    search (rules, inside)

pub overflow_add-at : goal.overflow_add-at
overflow_add-at c =
    let far = within-frames c.args.channels c.args.channel c.frames.place (length c.args.low.now) c.requires.channel c.frames-test.true in
    let inside : c.frames.at < length c.frames.out = omega (arith, far, c.frames.invariant.at_is, c.requires.out, c.frames.auto.out) in
    search (rules, inside)

pub returns-clause-put : goal.returns-clause-put
returns-clause-put c = λ i l. c.frames.invariant.put i (omega (arith, l, c.frames-test.false))

pub returns-clause-others : goal.returns-clause-others
returns-clause-others c = c.frames.invariant.others

pub returns-clause-bound : goal.returns-clause-bound
returns-clause-bound c = omega (arith, c.frames.invariant.bound, c.frames-test.false)
