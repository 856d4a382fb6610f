use Rattle.std.proofs.Common.{rules, ◌≡◌, ◌+◌, ◌*◌, ◌<◌, ◌≤◌, ◌∙◌, ◌+ℤ◌, ap, ℕ, ℤ, Bool, pos, length, arith, slice_index_or, add-one, below_more, sym, to_z, of_z, w32, w64}
use mathlib.Core.Path.{ap₂}
use Rattle.std.proofs.Math.Nat.{suc-mul}
use Rattle.fx_fixed.specs.Rounding.{rounding}
use Rattle.fx_frame_base.proofs.ChannelPlaces.{others-stay, put-more, within-frames}
use Rattle.std.proofs.lemmas.Int.{ints}
use Rattle.fx_tap_pointwise.proofs.channels.place_mean.Goals as goal

-- a sample of a channel is in its slice
sample-there : (channels channel place count at len : ℕ) → channel < channels → place < count → at ≡ place * channels + channel → count * channels ≤ len → at < len
sample-there channels channel place count at len inside less is free = omega (arith, within-frames channels channel place count inside less)

pub frames-preserved : goal.frames-preserved
frames-preserved c =
    let k : ℕ = c.frames._turn in
    let old = c.frames.invariant in
    let F : ℕ → ℤ = λ i. slice_index_or c.args.from.now (i * c.args.shape.channels + c.args.first) (pos 0) +ℤ slice_index_or c.args.from.now (i * c.args.shape.channels + c.args.second) (pos 0) in
    let sum : to_z w64 (of_z w64 (to_z w64 (of_z w64 c.from.result) +ℤ to_z w64 (of_z w64 c.from-in-frames.result))) ≡ slice_index_or c.args.from.now c.frames.left (pos 0) +ℤ slice_index_or c.args.from.now c.frames.right (pos 0) = search rules in
    let there : slice_index_or c.args.from.now c.frames.left (pos 0) +ℤ slice_index_or c.args.from.now c.frames.right (pos 0) ≡ F k =
    ap₂ (λ i j. slice_index_or c.args.from.now i (pos 0) +ℤ slice_index_or c.args.from.now j (pos 0)) old.left_is old.right_is in
    let made = rw (sum ∙ there) at c.halved.ensures in
    let back : to_z w32 (of_z w32 c.halved.result) ≡ c.halved.result = search rules in
    let y : ℤ = c.halved.result in
    let value : y ≡ (rounding (F k) 2).0 = sym (ap (λ (r : ℤ × Bool). r.0) made) in
    let inside = sample-there c.args.place.channels c.args.place.channel k c.args.shape.count c.frames.at (length c.frames.to) c.requires.place c.frames-test.true old.at_is (omega (arith, c.requires.to, c.frames.auto.to)) in
    rw back
    record {
      left_is = omega (arith, old.left_is, suc-mul k c.args.shape.channels, add-one k);
      right_is = omega (arith, old.right_is, suc-mul k c.args.shape.channels, add-one k);
      at_is = omega (arith, old.at_is, suc-mul k c.args.place.channels, add-one k);
      put = put-more (pos 0) (λ i. (rounding (F i) 2).0) c.frames.to c.args.place.channels c.args.place.channel k c.frames.at y c.requires.place old.at_is inside value old.put;
      unclipped = below_more _ _ old.unclipped (ap (λ (r : ℤ × Bool). r.1) made);
      others = λ p other. others-stay (pos 0) c.frames.to c.args.place.channels c.args.place.channel c.args.shape.count k c.frames.at p y old.at_is c.frames-test.true other ∙ old.others p other;
    }

pub bounds-from-left : goal.bounds-from-left
bounds-from-left c = sample-there c.args.shape.channels c.args.first c.frames._turn c.args.shape.count c.frames.left (length c.args.from.now) c.requires.first c.frames-test.true c.frames.invariant.left_is c.requires.from

pub offset_bounds-from-left : goal.offset_bounds-from-left
offset_bounds-from-left c = search (rules, sample-there c.args.shape.channels c.args.first c.frames._turn c.args.shape.count c.frames.left (length c.args.from.now) c.requires.first c.frames-test.true c.frames.invariant.left_is c.requires.from)

pub bounds-from-right : goal.bounds-from-right
bounds-from-right c = sample-there c.args.shape.channels c.args.second c.frames._turn c.args.shape.count c.frames.right (length c.args.from.now) c.requires.second c.frames-test.true c.frames.invariant.right_is c.requires.from

pub offset_bounds-from-right : goal.offset_bounds-from-right
offset_bounds-from-right c = search (rules, sample-there c.args.shape.channels c.args.second c.frames._turn c.args.shape.count c.frames.right (length c.args.from.now) c.requires.second c.frames-test.true c.frames.invariant.right_is c.requires.from)

pub bounds-to-at : goal.bounds-to-at
bounds-to-at c = sample-there c.args.place.channels c.args.place.channel c.frames._turn c.args.shape.count c.frames.at (length c.frames.to) c.requires.place c.frames-test.true c.frames.invariant.at_is (omega (arith, c.requires.to, c.frames.auto.to))

pub offset_bounds-to-at : goal.offset_bounds-to-at
offset_bounds-to-at c = search (rules, sample-there c.args.place.channels c.args.place.channel c.frames._turn c.args.shape.count c.frames.at (length c.frames.to) c.requires.place c.frames-test.true c.frames.invariant.at_is (omega (arith, c.requires.to, c.frames.auto.to)))

pub overflow_add-left : goal.overflow_add-left
overflow_add-left c = search (rules, sample-there c.args.shape.channels c.args.first c.frames._turn c.args.shape.count c.frames.left (length c.args.from.now) c.requires.first c.frames-test.true c.frames.invariant.left_is c.requires.from)

pub overflow_add-right : goal.overflow_add-right
overflow_add-right c = search (rules, sample-there c.args.shape.channels c.args.second c.frames._turn c.args.shape.count c.frames.right (length c.args.from.now) c.requires.second c.frames-test.true c.frames.invariant.right_is c.requires.from)

pub overflow_add-at : goal.overflow_add-at
overflow_add-at c = search (rules, sample-there c.args.place.channels c.args.place.channel c.frames._turn c.args.shape.count c.frames.at (length c.frames.to) c.requires.place c.frames-test.true c.frames.invariant.at_is (omega (arith, c.requires.to, c.frames.auto.to)))

pub overflow_add-from : goal.overflow_add-from
overflow_add-from c = omega (arith, ints, c.from.ensures, c.from-in-frames.ensures)

pub halved-requires-clause-minimum : goal.halved-requires-clause-minimum
halved-requires-clause-minimum c = omega (arith, ints, c.from.ensures, c.from-in-frames.ensures)

pub halved-requires-clause-maximum : goal.halved-requires-clause-maximum
halved-requires-clause-maximum c = omega (arith, ints, c.from.ensures, c.from-in-frames.ensures)

pub returns-clause-put : goal.returns-clause-put
returns-clause-put c = λ i l. c.frames.invariant.put i (omega (arith, l, c.frames-test.false))

pub returns-clause-unclipped : goal.returns-clause-unclipped
returns-clause-unclipped c = λ i l. c.frames.invariant.unclipped i (omega (arith, l, c.frames-test.false))

pub returns-clause-others : goal.returns-clause-others
returns-clause-others c = c.frames.invariant.others
