use Rattle.std.proofs.Common.{rules, ◌≡◌, ◌+◌, ◌*◌, ◌<◌, ◌∙◌, ap, refl, cond, ℕ, ℤ, pos, Bool, length, arith, slice_index_or, add-one, to_z, of_z, w32}
use Rattle.std.proofs.lemmas.Grind.{common_steps}
use Rattle.std.proofs.Math.Nat.{suc-mul}
use Rattle.fx_fixed.specs.Rounding.{clip_count}
use Rattle.fx_frame_base.proofs.ChannelPlaces.{others-stay, put-more, within-frames}
use Rattle.fx_frame_base.proofs.Rounds.{clips_of-next, byte_is, byte-le}
use Rattle.fx_tap_pointwise.proofs.channels.place_rounded.Goals as goal

pub frames-preserved : goal.frames-preserved
frames-preserved g c =
    let k : ℕ = c.frames._turn in
    let old = c.frames.invariant in
    let x : ℕ → ℤ = λ i. slice_index_or c.args.from.now (i * c.args.shape.channels + c.args.channel) (pos 0) in
    let f : ℕ → ℤ × Bool = λ i. g.S.Sampling.rounded c.args.sampling.now (x i) in
    let there : slice_index_or c.args.from.now c.frames.read (pos 0) ≡ x k = ap (λ i. slice_index_or c.args.from.now i (pos 0)) old.read_is in
    let y : ℤ = c.round_and_count.result in
    let back : to_z w32 (of_z w32 y) ≡ y = search rules in
    let same : g.S.Sampling.rounded c.args.sampling.now (slice_index_or c.args.from.now c.frames.read (pos 0)) ≡ f k = ap (λ z. g.S.Sampling.rounded c.args.sampling.now z) there in
    let here : y ≡ (g.S.Sampling.rounded c.args.sampling.now (slice_index_or c.args.from.now c.frames.read (pos 0))).0 = search rules in
    let clips : c.round_and_count.new.clips ≡ c.frames.clips + clip_count (g.S.Sampling.rounded c.args.sampling.now (slice_index_or c.args.from.now c.frames.read (pos 0))) = search rules in
    let sample : y ≡ (f k).0 = here ∙ ap (λ r. r.0) same in
    let counted : c.round_and_count.new.clips ≡ c.frames.clips + cond (f k).1 1 0 = clips ∙ ap (λ r. c.frames.clips + clip_count r) same in
    let far = within-frames c.args.place.channels c.args.place.channel k c.args.shape.count c.requires.place c.frames-test.true in
    let inside : c.frames.at < length c.frames.to = omega (arith, far, old.at_is, c.requires.to, c.frames.auto.to) in
    rw back
    record {
      read_is = omega (arith, old.read_is, suc-mul k c.args.shape.channels, add-one k);
      at_is = omega (arith, old.at_is, suc-mul k c.args.place.channels, add-one k);
      put = put-more (pos 0) (λ i. (f i).0) c.frames.to c.args.place.channels c.args.place.channel k c.frames.at y c.requires.place old.at_is inside sample old.put;
      others = λ p other. others-stay (pos 0) c.frames.to c.args.place.channels c.args.place.channel c.args.shape.count k c.frames.at p y old.at_is c.frames-test.true other ∙ old.others p other;
      counted = counted ∙ clips_of-next f k c.frames.clips (f k).1 old.counted refl;
      bound = omega (arith, counted, byte-le (f k).1, byte_is (f k).1, old.bound);
    }

pub overflow_add-at : goal.overflow_add-at
overflow_add-at g c =
    let far = within-frames c.args.place.channels c.args.place.channel c.frames._turn c.args.shape.count c.requires.place c.frames-test.true in
    let inside : c.frames.at < length c.frames.to = omega (arith, far, c.frames.invariant.at_is, c.requires.to, c.frames.auto.to) in
    search (rules, inside)

pub offset_bounds-to-at : goal.offset_bounds-to-at
offset_bounds-to-at g c = grind (arith, common_steps)
