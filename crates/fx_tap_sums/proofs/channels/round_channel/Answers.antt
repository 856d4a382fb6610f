use Rattle.std.proofs.Common.{rules, ◌≡◌, ◌+◌, ◌<◌, ◌∙◌, refl, cond, ℕ, ℤ, pos, Bool, length, arith, slice_index_or, add-one, to_z, of_z, w32}
use Rattle.std.proofs.lemmas.Grind.{common_steps}
use Rattle.std.proofs.Math.Nat.{suc-mul}
use Rattle.fx_fixed.specs.Rounding.{rounding}
use Rattle.fx_frame_base.proofs.ChannelPlaces.{others-stay, put-more, within-frames}
use Rattle.fx_frame_base.proofs.Rounds.{clips_of-next, byte_is, byte-le}
use Rattle.fx_tap_sums.proofs.channels.round_channel.Goals as goal

pub frames-preserved : goal.frames-preserved
frames-preserved c =
    let k : ℕ = c.frames.place in
    let old = c.frames.invariant in
    let f : ℕ → ℤ × Bool = λ i. rounding (slice_index_or c.args.sums.now i (pos 0)) c.args.denominator.now in
    let y : ℤ = c.round_and_count.result in
    let back : to_z w32 (of_z w32 y) ≡ y = search rules in
    let sample : y ≡ (f k).0 = search rules in
    let counted : c.round_and_count.new.clips ≡ c.frames.clips + cond (f k).1 1 0 = search rules in
    let one = byte-le (f k).1 in
    let far = within-frames c.args.channels c.args.channel k (length c.args.sums.now) c.requires.channel c.frames-test.true in
    let inside : c.frames.at < length c.frames.out = omega (arith, far, old.at_is, c.requires.out, c.frames.auto.out) in
    rw back
    record {
      at_is = omega (arith, old.at_is, suc-mul k c.args.channels, add-one k);
      put = put-more (pos 0) (λ i. (f i).0) c.frames.out c.args.channels c.args.channel k c.frames.at y c.requires.channel old.at_is inside sample old.put;
      others = λ p other. others-stay (pos 0) c.frames.out c.args.channels c.args.channel (length c.args.sums.now) k c.frames.at p y old.at_is c.frames-test.true other ∙ old.others p other;
      counted = counted ∙ clips_of-next f k c.frames.clips (f k).1 old.counted refl;
      bound = omega (arith, counted, one, byte_is (f k).1, old.bound);
    }

pub overflow_add-at : goal.overflow_add-at
overflow_add-at c = grind (arith, common_steps)

pub bounds-out-at : goal.bounds-out-at
bounds-out-at c = grind (arith, common_steps)

pub returns-clause-put : goal.returns-clause-put
returns-clause-put c = grind (arith, common_steps)

pub returns-clause-others : goal.returns-clause-others
returns-clause-others c = c.frames.invariant.others

pub returns-clause-clips : goal.returns-clause-clips
returns-clause-clips c = grind (arith, common_steps)

pub returns-clause-bound : goal.returns-clause-bound
returns-clause-bound c = grind (arith, common_steps)
