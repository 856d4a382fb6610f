use Rattle.std.proofs.Common.{◌≡◌, ◌+◌, ◌*◌, ◌<◌, ℕ, arith, refl}
use Rattle.fx_tap_sums.proofs.PairLanes.{each_of_four, halves_back, pair_fits, pair_is}
use Rattle.fx_tap_sums.proofs.pairs.multiply_pairs.Goals as goal

pub overflow_add-result : goal.overflow_add-result
overflow_add-result c =
    let fits = pair_fits c.args.x c.args.y c.multiply-products.result in
    let e = c.multiply-products.ensures in
    let value = rw (halves_back c.args.x c.requires.x, halves_back c.args.y c.requires.y) at e.value in
    let lane = λ (j k : ℕ) (l : j + 1 < 8) (m : k < 4) (is : j ≡ 2 * k). fits j c.requires.x c.requires.y value e.eight e.fits l (rw is (c.requires.fits k m)) in
    (lane 0 0 (omega arith) (omega arith) refl, (lane 2 1 (omega arith) (omega arith) refl, (lane 4 2 (omega arith) (omega arith) refl, (lane 6 3 (omega arith) (omega arith) refl, tt))))

pub returns-clause-value : goal.returns-clause-value
returns-clause-value c =
    let is = pair_is c.args.x c.args.y c.multiply-products.result in
    let e = c.multiply-products.ensures in
    let value = rw (halves_back c.args.x c.requires.x, halves_back c.args.y c.requires.y) at e.value in
    each_of_four _
    (is 0 c.requires.x c.requires.y value e.eight e.fits (omega arith) (c.requires.fits 0 (omega arith)))
    (is 2 c.requires.x c.requires.y value e.eight e.fits (omega arith) (c.requires.fits 1 (omega arith)))
    (is 4 c.requires.x c.requires.y value e.eight e.fits (omega arith) (c.requires.fits 2 (omega arith)))
    (is 6 c.requires.x c.requires.y value e.eight e.fits (omega arith) (c.requires.fits 3 (omega arith)))

pub multiply-products-requires-clause-x : goal.multiply-products-requires-clause-x
multiply-products-requires-clause-x c = rw (halves_back c.args.x c.requires.x) c.requires.x

pub multiply-products-requires-clause-y : goal.multiply-products-requires-clause-y
multiply-products-requires-clause-y c = rw (halves_back c.args.y c.requires.y) c.requires.y
