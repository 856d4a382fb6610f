use Rattle.std.proofs.Common.{arith, ◌≡◌, ◌<◌, ◌+◌, ◌-◌, ◌*◌, ◌^◌, ◌∙◌, refl, sym, length, take, drop}
use Rattle.fx_tap_sums.specs.Residues.{AreRemainders}
use Rattle.fx_tap_sums.proofs.Writes.{remainders_both, remainders_drop, remainders_take, remainders_wider}
use Rattle.fx_tap_sums.proofs.Leaves.{leaves_dropped, leaves_taken}
use Rattle.fx_tap_sums.proofs.Steps.{halved, halves_fit, product_of_halves, read_at}
use Rattle.fx_tap_sums.proofs.transforms.transform.multiply_sixty_four.Goals as goal

pub spread-requires : goal.spread-requires
spread-requires g c =
    let v = c.args.values.now in
    let p = g.row.P in
    let below : AreRemainders (20 * p) v = remainders_wider (14 * p) (20 * p) v (omega arith) c.requires.values in
    let fit = halves_fit p 32 v c.split_at_mut-low.result.0.now c.split_at_mut-low.result.1.now c.requires.modulus (omega (arith, c.requires.sixty_four)) c.split_at_mut-low.ensures.front c.split_at_mut-low.ensures.back below in
    let front : length c.split_at_mut-low.result.0.now ≡ 32 = c.split_at_mut-low.ensures.front_len in
    (omega arith, (c.requires.modulus, ((8, omega (arith, front)), (omega (arith, c.requires.sixty_four, front, c.split_at_mut-low.ensures.back_len), fit))))

pub multiply_thirty_two-requires : goal.multiply_thirty_two-requires
multiply_thirty_two-requires g c =
    let v = c.args.values.now in
    let leaves = c.args.leaves.now in
    let p = g.row.P in
    let less : 2 * c.args.place < 128 = omega (arith, c.requires.place) in
    let low : AreRemainders (14 * p) c.split_at_mut-low.result.0.now = rw c.split_at_mut-low.ensures.front (remainders_take (14 * p) 32 v (omega (arith, c.requires.sixty_four)) c.requires.values) in
    let bound : 14 * p + 2 * p ≡ 16 * p = omega arith in
    let back : AreRemainders p c.split_at.result.1.now = rw c.split_at.ensures.back (remainders_drop p 64 leaves c.requires.leaves) in
    let long : length c.spread.new.low ≡ 32 = omega (arith, c.spread.auto.low, c.split_at_mut-low.ensures.front_len) in
    let as_many : length c.split_at.result.1.now ≡ 64 = omega (arith, c.split_at.ensures.back_len, c.requires.as_many) in
    (omega arith, (c.requires.modulus, (c.requires.table, (c.requires.beside, (c.requires.are, (long, (as_many, (less, (back, rw bound at (c.spread.ensures.low (14 * p) low))))))))))

pub multiply_thirty_two-requires-2 : goal.multiply_thirty_two-requires-2
multiply_thirty_two-requires-2 g c =
    let v = c.args.values.now in
    let leaves = c.args.leaves.now in
    let p = g.row.P in
    let less : 2 * c.args.place + 1 < 128 = omega (arith, c.requires.place) in
    let low : AreRemainders (14 * p) c.split_at_mut-low.result.0.now = rw c.split_at_mut-low.ensures.front (remainders_take (14 * p) 32 v (omega (arith, c.requires.sixty_four)) c.requires.values) in
    let bound : 14 * p + 2 * p ≡ 16 * p = omega arith in
    let front : AreRemainders p c.split_at.result.0.now = rw c.split_at.ensures.front (remainders_take p 64 leaves (omega (arith, c.requires.as_many)) c.requires.leaves) in
    let long : length c.spread.new.high ≡ 32 = omega (arith, c.spread.auto.high, c.split_at_mut-low.ensures.back_len, c.requires.sixty_four) in
    (omega arith, (c.requires.modulus, (c.requires.table, (c.requires.beside, (c.requires.are, (long, (c.split_at.ensures.front_len, (less, (front, rw bound at (c.spread.ensures.high (14 * p) low))))))))))

pub gather-requires : goal.gather-requires
gather-requires g c =
    let low : length c.multiply_thirty_two.new.values ≡ 32 = omega (arith, c.multiply_thirty_two.auto.values, c.spread.auto.low, c.split_at_mut-low.ensures.front_len) in
    let high : length c.multiply_thirty_two-2.new.values ≡ 32 = omega (arith, c.multiply_thirty_two-2.auto.values, c.spread.auto.high, c.split_at_mut-low.ensures.back_len, c.requires.sixty_four) in
    (omega arith, (c.requires.modulus, ((8, omega (arith, low)), (omega (arith, low, high), (c.multiply_thirty_two.ensures.values, c.multiply_thirty_two-2.ensures.values)))))

pub returns-clause-values : goal.returns-clause-values
returns-clause-values g c = remainders_both (4 * g.row.P) c.gather.new.low c.gather.new.high c.gather.ensures.low c.gather.ensures.high

pub returns-clause-product : goal.returns-clause-product
returns-clause-product g c = λ s a h f square a_as_long h_as_long same transform leaves_are.
    let a_long : length a ≡ 64 = a_as_long ∙ c.requires.sixty_four in
    let h_long : length h ≡ 64 = h_as_long ∙ c.requires.sixty_four in
    let last : 2 ^ (4 - 1) * (c.args.place + 1) - 1 ≡ 8 * c.args.place + 7 = omega arith in
    let are = rw last at leaves_are in
    let roots = c.args.roots.now in
    let inverses = c.args.inverses.now in
    let place = c.args.place in
    let less : place < 512 = omega (arith, c.requires.place) in
    let root = read_at roots place c.index-roots-place.result (omega (arith, less, c.requires.table)) c.index-roots-place.is in
    let inverse = read_at inverses place c.index-inverses-place.result (omega (arith, less, c.requires.beside)) c.index-inverses-place.is in
    let xs_long : length c.spread.new.low ≡ 32 = omega (arith, c.spread.auto.low, c.split_at_mut-low.ensures.front_len) in
    let ys_long : length c.spread.new.high ≡ 32 = omega (arith, c.spread.auto.high, c.split_at_mut-low.ensures.back_len, c.requires.sixty_four) in
    let lows_long : length c.gather.new.low ≡ 32 = omega (arith, c.gather.auto.low, c.multiply_thirty_two.auto.values, xs_long) in
    let leaves = c.args.leaves.now in
    let f_long : length f ≡ 64 = omega (arith, are.long, c.requires.as_many) in
    let front_last : 8 * place + 7 ≡ 2 ^ (3 - 1) * (2 * place + 1 + 1) - 1 = omega arith in
    let back_last : 8 * place + 7 - 4 ≡ 2 ^ (3 - 1) * (2 * place + 1) - 1 = omega arith in
    let front = rw (front_last, ← c.split_at.ensures.front) at (leaves_taken g.row.P roots (8 * place + 7) 32 4 f leaves refl (omega (arith, f_long)) are) in
    let back = rw (back_last, ← c.split_at.ensures.back) at (leaves_dropped g.row.P roots (8 * place + 7) 32 4 f leaves refl are) in
    product_of_halves g.row.P 4 64 3 32 place c.index-roots-place.result c.index-inverses-place.result roots inverses c.args.values.now f c.split_at_mut-low.result.0.now c.split_at_mut-low.result.1.now (take 32 f) (drop 32 f) c.spread.new.low c.spread.new.high c.multiply_thirty_two.new.values c.multiply_thirty_two-2.new.values c.gather.new.low c.gather.new.high
    (halved 4 64 refl (omega arith)) c.requires.are (omega (arith, c.requires.place)) root inverse c.requires.sixty_four c.split_at_mut-low.ensures.front c.split_at_mut-low.ensures.back refl refl xs_long ys_long lows_long c.spread.ensures.plus c.spread.ensures.minus
    (λ s a h square a_long h_long same transform. c.multiply_thirty_two.ensures.product s a h (drop 32 f) square (a_long ∙ sym xs_long) (h_long ∙ sym xs_long) same transform back)
    (λ s a h square a_long h_long same transform. c.multiply_thirty_two-2.ensures.product s a h (take 32 f) square (a_long ∙ sym ys_long) (h_long ∙ sym ys_long) same transform front)
    c.gather.ensures.plus c.gather.ensures.minus
    s a h square a_long h_long same transform
