use Rattle.std.proofs.Common.{arith, ◌≡◌, ◌<◌, ◌+◌, ◌-◌, ◌*◌, ◌/◌, ◌^◌, ◌∙◌, ℕ, ℤ, neg_ℤ, pos, refl, length, get_or, take, drop}
use Rattle.std.proofs.lemmas.Grind.{get_or_default_zero}
use Rattle.std.proofs.lemmas.List.{length-drop, length-take-le}
use Rattle.fx_tap_sums.specs.Residues.{AreRemainders, AreSame}
use Rattle.fx_tap_sums.specs.Transform.{combined, root_at}
use Rattle.fx_tap_sums.proofs.Residues.{same_on}
use Rattle.fx_tap_sums.proofs.Steps.{eight_at_least, halved, level_less, levels_bound, place_less, transform_one, transform_both, combined_same, same_front, same_back}
use Rattle.fx_tap_sums.proofs.Writes.{remainders_drop, remainders_take, remainders_wider}
use Rattle.fx_tap_sums.proofs.Cyclic.{length-combined}
use Rattle.fx_tap_sums.proofs.transforms.transform.+forward.Goals as goal

pub returns-then-levels-eq0-clause-transform : goal.returns-then-levels-eq0-clause-transform
returns-then-levels-eq0-clause-transform g t c = λ h long same.
    let v = c.args.values.now in
    let four : length v ≡ 4 = c.requires.power ∙ rw c.if-levels-eq0.true refl in
    let size = c.put.auto.numbers in
    transform_one g.row.P c.args.roots.now c.args.levels c.args.place h c.put.new.numbers c.if-levels-eq0.true
    (λ i lt.
    let below : i < 4 = omega arith in
    let first : 0 + i ≡ i = omega arith in
    let here = rw first at (c.put.ensures.put i below) in
    let there = rw first at (c.load.ensures.value i below) in
    rw here (same_on (pos g.row.P) _ (pos (get_or v i 0)) _ (rw there at (c.remainders_of_four.ensures.same i below)) (same i (omega arith))))

pub bounds-roots-place : goal.bounds-roots-place
bounds-roots-place g t c =
    let half = halved c.args.levels (length c.args.values.now) c.requires.power (omega arith) in
    let bound = place_less c.args.place (length c.args.values.now) 8 (eight_at_least c.args.levels (length c.args.values.now) c.requires.power (omega arith)) c.requires.place in
    omega arith

pub spread-requires : goal.spread-requires
spread-requires g t c =
    let v = c.args.values.now in
    let p = g.row.P in
    let m : ℕ = length v / 2 in
    let bound : ℕ = (22 - 2 * c.args.levels) * p in
    let half = halved c.args.levels (length v) c.requires.power (omega arith) in
    let below : AreRemainders (20 * p) v = remainders_wider bound (20 * p) v (level_less c.args.levels p (omega arith)) c.requires.values in
    let less : AreRemainders (2 ^ 32 - 2 * p) v = remainders_wider (20 * p) (2 ^ 32 - 2 * p) v (omega (arith, c.requires.modulus)) below in
    let fits : AreRemainders (2 ^ 32) v = remainders_wider (20 * p) (2 ^ 32) v (omega (arith, c.requires.modulus)) below in
    let first : AreRemainders (2 ^ 32 - 2 * p) c.split_at_mut-low.result.1.now = rw c.split_at_mut-low.ensures.back (remainders_drop (2 ^ 32 - 2 * p) m v less) in
    let second : AreRemainders (2 ^ 32) c.split_at_mut-low.result.0.now = rw c.split_at_mut-low.ensures.front (remainders_take (2 ^ 32) m v (omega arith) fits) in
    (omega arith, (c.requires.modulus, ((2 ^ (c.args.levels - 1), omega (arith, half.power, half.twice, c.split_at_mut-low.ensures.front_len, c.split_at_mut-low.ensures.back_len)), (omega (arith, half.twice, c.split_at_mut-low.ensures.front_len, c.split_at_mut-low.ensures.back_len), (first, second)))))

pub are_bounded-requires : goal.are_bounded-requires
are_bounded-requires g t c =
    let v = c.args.values.now in
    let p = g.row.P in
    let m : ℕ = length v / 2 in
    let bound : ℕ = (22 - 2 * c.args.levels) * p in
    let limit = levels_bound c.args.levels (length v) c.args.place c.requires.power c.requires.place in
    let high : AreRemainders bound c.split_at_mut-low.result.1.now = rw c.split_at_mut-low.ensures.back (remainders_drop bound m v c.requires.values) in
    record { some = omega arith; bound = limit; low = c.spread.ensures.high bound high; high = c.spread.ensures.low bound high }

pub returns-clause-transform : goal.returns-clause-transform
returns-clause-transform g t c = λ h h_long same.
    let v = c.args.values.now in
    let n = length c.args.values.now in
    let m : ℕ = length c.args.values.now / 2 in
    let low = c.split_at_mut-low.result.0.now in
    let high = c.split_at_mut-low.result.1.now in
    let xs = c.spread.new.low in
    let ys = c.spread.new.high in
    let r : ℤ = root_at c.args.roots.now c.args.place in
    let half = halved c.args.levels n c.requires.power (omega arith) in
    let low_long = c.split_at_mut-low.ensures.front_len in
    let high_long = c.split_at_mut-low.ensures.back_len in
    let left_long = c.spread.auto.low in
    let right_long = c.spread.auto.high in
    let front = length-take-le m h (omega arith) in
    let back = length-drop m h in
    let low_same : AreSame g.row.P low (take m h) = rw c.split_at_mut-low.ensures.front (same_front g.row.P m v h (omega arith) same) in
    let high_same : AreSame g.row.P high (drop m h) = rw c.split_at_mut-low.ensures.back (same_back g.row.P m v h same) in
    let bound = place_less c.args.place n 8 (eight_at_least c.args.levels n c.requires.power (omega arith)) c.requires.place in
    let root : c.index-roots-place.result ≡ get_or c.args.roots.now c.args.place 0 = c.index-roots-place.is ∙ get_or_default_zero c.args.roots.now c.args.place c.index-roots-place.result (omega arith) in
    let left_same = combined_same g.row.P r (drop m h) (take m h) high low xs (omega arith) (omega arith) (omega arith) (omega arith) high_same low_same (rw root at c.spread.ensures.plus) in
    let right_same = combined_same g.row.P (neg_ℤ r) (drop m h) (take m h) high low ys (omega arith) (omega arith) (omega arith) (omega arith) high_same low_same (λ i lt. rw root at (c.spread.ensures.minus i (omega arith))) in
    let left_size = length-combined r (drop m h) (take m h) (omega arith) in
    let right_size = length-combined (neg_ℤ r) (drop m h) (take m h) (omega arith) in
    let left = c.forward.ensures.transform (combined r (drop m h) (take m h)) (omega arith) left_same in
    let right = c.forward-2.ensures.transform (combined (neg_ℤ r) (drop m h) (take m h)) (omega arith) right_same in
    let new_long = c.forward-2.auto.values in
    transform_both g.row.P c.args.roots.now c.args.levels n (c.args.levels - 1) m c.args.place h c.forward.new.values c.forward-2.new.values half (omega arith) left right
