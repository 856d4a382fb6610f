use Rattle.std.proofs.Common.{◌∙◌, ap, pos, ◌+ℤ◌, slice_index_or}
use Rattle.fx_tap_sums.proofs.PairLanes.{four_back, halves_back}
use Rattle.fx_tap_sums.proofs.pairs.add_pairs.Goals as goal

pub multiply_pairs-requires-clause-x : goal.multiply_pairs-requires-clause-x
multiply_pairs-requires-clause-x c = rw (halves_back c.args.x c.requires.are_halves) c.requires.are_halves

pub multiply_pairs-requires-clause-y : goal.multiply_pairs-requires-clause-y
multiply_pairs-requires-clause-y c = rw (halves_back c.args.weights c.requires.weights_fit) c.requires.weights_fit

pub multiply_pairs-requires-clause-fits : goal.multiply_pairs-requires-clause-fits
multiply_pairs-requires-clause-fits c = rw (halves_back c.args.x c.requires.are_halves, halves_back c.args.weights c.requires.weights_fit) c.requires.product

pub add_lanes-requires-clause-x : goal.add_lanes-requires-clause-x
add_lanes-requires-clause-x c = rw (four_back c.args.sums c.requires.sums_fit) c.requires.sums_fit

pub add_lanes-requires-clause-y : goal.add_lanes-requires-clause-y
add_lanes-requires-clause-y c = rw (four_back c.multiply_pairs.result c.multiply_pairs.ensures.fits) c.multiply_pairs.ensures.fits

pub add_lanes-requires-clause-fits : goal.add_lanes-requires-clause-fits
add_lanes-requires-clause-fits c = λ k l.
    let product = rw (halves_back c.args.x c.requires.are_halves, halves_back c.args.weights c.requires.weights_fit) at (c.multiply_pairs.ensures.value k l) in
    rw (four_back c.args.sums c.requires.sums_fit, four_back c.multiply_pairs.result c.multiply_pairs.ensures.fits, product) (c.requires.sum k l)

pub returns : goal.returns
returns c = rw (four_back c.add_lanes.result c.add_lanes.ensures.fits) (record {
  fit = c.add_lanes.ensures.fits;
  value = λ k l.
      let product = rw (halves_back c.args.x c.requires.are_halves, halves_back c.args.weights c.requires.weights_fit) at (c.multiply_pairs.ensures.value k l) in
      let sum = rw (four_back c.args.sums c.requires.sums_fit, four_back c.multiply_pairs.result c.multiply_pairs.ensures.fits) at (c.add_lanes.ensures.value k l) in
      sum ∙ ap (λ z. slice_index_or c.args.sums k (pos 0) +ℤ z) product;
})
