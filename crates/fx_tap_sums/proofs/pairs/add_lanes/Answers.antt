use Rattle.std.proofs.Common.{◌∙◌, ◌+ℤ◌, pos, arith}
use Rattle.std.proofs.lemmas.Simd.{get_or-zip2, length-zip2}
use Rattle.fx_tap_sums.proofs.PairLanes.{add_asked, adds_fit, sums_are, sums_fit}
use Rattle.fx_tap_sums.proofs.pairs.add_lanes.Goals as goal

pub overflow_add-result : goal.overflow_add-result
overflow_add-result c =
    add_asked c.args.x c.args.y c.requires.x.fits c.requires.y.fits (adds_fit c.args.x c.args.y c.requires.x.four c.requires.y.four c.requires.fits)

pub returns-clause-fits : goal.returns-clause-fits
returns-clause-fits c =
    let x_four = c.requires.x.four in
    let y_four = c.requires.y.four in
    let fit = adds_fit c.args.x c.args.y x_four y_four c.requires.fits in
    let are = sums_are c.args.x c.args.y c.requires.x.fits c.requires.y.fits fit in
    rw are (record {
      four = length-zip2 (λ a b. a +ℤ b) c.args.x c.args.y (omega (arith, x_four, y_four)) ∙ x_four;
      fits = sums_fit c.args.x c.args.y fit;
    })

pub returns-clause-value : goal.returns-clause-value
returns-clause-value c = λ k l.
    let x_four = c.requires.x.four in
    let y_four = c.requires.y.four in
    let fit = adds_fit c.args.x c.args.y x_four y_four c.requires.fits in
    let are = sums_are c.args.x c.args.y c.requires.x.fits c.requires.y.fits fit in
    rw are (get_or-zip2 (λ a b. a +ℤ b) c.args.x c.args.y k (pos 0) (pos 0) (pos 0) (omega (arith, x_four, l)) (omega (arith, y_four, l)))
