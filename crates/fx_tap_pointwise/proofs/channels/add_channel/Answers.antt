use Rattle.std.proofs.Common.{rules, ◌≡◌, ◌<◌, ◌≤◌, ◌+◌, ◌*◌, ◌^◌, ◌∙◌, ap, List, ℕ, ℤ, pos, ◌+ℤ◌, ◌*ℤ◌, length, arith, slice_index_or, unsigned_abs, FitsSigned, add-one, to_z, of_z, below_more}
use Rattle.std.specs.Int.{w32, w64}
use Rattle.std.proofs.Math.Nat.{suc-mul}
use Rattle.std.proofs.lemmas.Int.{fits_signed_from_abs, ints, fits_signed_mul}
use Rattle.std.proofs.lemmas.List.{get_or-set_other}
use Rattle.fx_tap_sums.proofs.SmallSums.{held-64, plain-product-64}
use Rattle.fx_tap_sums.proofs.SumLaws.{added-more}
use Rattle.fx_frame_base.proofs.ChannelPlaces.{within-frames}
use Rattle.fx_tap_pointwise.proofs.channels.add_channel.Goals as goal

pub overflow_add-sums : goal.overflow_add-sums
overflow_add-sums c =
    let i : ℕ = c.frames.place in
    let ch : ℕ = c.args.channels in
    let q : ℕ = c.args.channel in
    let frames : List ℤ = c.args.frames.now in
    let old : List ℤ = c.args.sums.now in
    let sums : List ℤ = c.frames.sums in
    let s : ℤ = slice_index_or sums i (pos 0) in
    let x : ℤ = slice_index_or frames c.frames.at (pos 0) in
    let w : ℤ = c.args.weight in
    let first : s ≡ slice_index_or old i (pos 0) = c.frames.invariant.left i (omega arith) in
    let there : x ≡ slice_index_or frames (i * ch + q) (pos 0) = ap (λ k. slice_index_or frames k (pos 0)) c.frames.invariant.at_is in
    let sample_fits : FitsSigned w32 x = search rules in
    let sample : unsigned_abs x ≤ 2 ^ 31 = omega (arith, ints) in
    let weight_fits : FitsSigned w32 w = search rules in
    let weight : unsigned_abs w ≤ 2 ^ 31 = omega (arith, ints) in
    let f : c.from.result ≡ x = search rules in
    let y : c.from-factor.result ≡ w = search rules in
    let whole : to_z w64 (of_z w64 s) ≡ s = search rules in
    let inside : i < length old = omega (arith, c.frames-test.true, c.frames.auto.sums) in
    let free : unsigned_abs (s +ℤ (x *ℤ w)) ≤ 2 ^ 62 = rw (first, there) (c.requires.free i inside (rw (← there) sample)) in
    rw (plain-product-64 x w c.from.result c.from-factor.result f y sample weight, whole) (fits_signed_from_abs w64 (s +ℤ (x *ℤ w)) (omega (arith, free)))

pub frames-preserved : goal.frames-preserved
frames-preserved c =
    let i : ℕ = c.frames.place in
    let ch : ℕ = c.args.channels in
    let q : ℕ = c.args.channel in
    let frames : List ℤ = c.args.frames.now in
    let old : List ℤ = c.args.sums.now in
    let sums : List ℤ = c.frames.sums in
    let s : ℤ = slice_index_or sums i (pos 0) in
    let x : ℤ = slice_index_or frames c.frames.at (pos 0) in
    let w : ℤ = c.args.weight in
    let first : s ≡ slice_index_or old i (pos 0) = c.frames.invariant.left i (omega arith) in
    let there : x ≡ slice_index_or frames (i * ch + q) (pos 0) = ap (λ k. slice_index_or frames k (pos 0)) c.frames.invariant.at_is in
    let sample_fits : FitsSigned w32 x = search rules in
    let sample : unsigned_abs x ≤ 2 ^ 31 = omega (arith, ints) in
    let weight_fits : FitsSigned w32 w = search rules in
    let weight : unsigned_abs w ≤ 2 ^ 31 = omega (arith, ints) in
    let f : c.from.result ≡ x = search rules in
    let y : c.from-factor.result ≡ w = search rules in
    let whole : to_z w64 (of_z w64 s) ≡ s = search rules in
    let inside : i < length old = omega (arith, c.frames-test.true, c.frames.auto.sums) in
    let free : unsigned_abs (s +ℤ (x *ℤ w)) ≤ 2 ^ 62 = rw (first, there) (c.requires.free i inside (rw (← there) sample)) in
    let z : ℤ = s +ℤ (x *ℤ w) in
    let in_range : i < length sums = omega (arith, c.frames-test.true) in
    let F : ℕ → ℤ = λ k. slice_index_or frames (k * ch + q) (pos 0) *ℤ w in
    let kept : to_z w32 (of_z w32 w) ≡ w = search rules in
    rw (plain-product-64 x w c.from.result c.from-factor.result f y sample weight, whole, held-64 z free, kept)
    record {
      at_is = omega (arith, c.frames.invariant.at_is, suc-mul i ch, add-one i);
      added = added-more old sums F i z in_range (ap (λ u. u +ℤ (x *ℤ w)) first ∙ ap (λ v. slice_index_or old i (pos 0) +ℤ (v *ℤ w)) there) (rw kept at c.frames.invariant.added);
      seen = below_more _ _ c.frames.invariant.seen (rw (← there) sample);
      left = λ k l. get_or-set_other sums i k z (pos 0) (λ e. omega arith) ∙ c.frames.invariant.left k (omega arith);
    }

pub bounds-frames-at : goal.bounds-frames-at
bounds-frames-at c =
    let far = within-frames c.args.channels c.args.channel c.frames.place (length c.args.sums.now) c.requires.channel (omega (arith, c.frames-test.true, c.frames.auto.sums)) in
    omega (arith, far, c.frames.invariant.at_is, c.requires.frames)

pub offset_bounds-frames-at : goal.offset_bounds-frames-at
offset_bounds-frames-at c =
    let far = within-frames c.args.channels c.args.channel c.frames.place (length c.args.sums.now) c.requires.channel (omega (arith, c.frames-test.true, c.frames.auto.sums)) in
    let inside : c.frames.at < length c.args.frames.now = omega (arith, far, c.frames.invariant.at_is, c.requires.frames) in
    search (rules, inside)

pub overflow_mul-sums : goal.overflow_mul-sums
overflow_mul-sums c =
    fits_signed_mul w64 (to_z w64 (of_z w64 c.from.result)) (to_z w64 (of_z w64 c.from-factor.result)) (2 ^ 31) (2 ^ 31) (omega (arith, ints, c.from.ensures)) (omega (arith, ints, c.from-factor.ensures)) (omega arith)

pub overflow_add-at : goal.overflow_add-at
overflow_add-at c =
    let far = within-frames c.args.channels c.args.channel c.frames.place (length c.args.sums.now) c.requires.channel (omega (arith, c.frames-test.true, c.frames.auto.sums)) in
    let inside : c.frames.at < length c.args.frames.now = omega (arith, far, c.frames.invariant.at_is, c.requires.frames) in
    search (rules, inside)

pub returns-clause-added : goal.returns-clause-added
returns-clause-added c =
    let kept : to_z w32 (of_z w32 c.args.weight) ≡ c.args.weight = search rules in
    λ i l. (rw kept at c.frames.invariant.added) i (omega (arith, l, c.frames-test.false, c.frames.auto.sums))

pub returns-clause-samples : goal.returns-clause-samples
returns-clause-samples c = λ i l. c.frames.invariant.seen i (omega (arith, l, c.frames-test.false, c.frames.auto.sums))
