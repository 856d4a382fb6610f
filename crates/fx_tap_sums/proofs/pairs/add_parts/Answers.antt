use Rattle.fx_tap_sums.proofs.PairLanes.{four_back, halves_back}
use Rattle.fx_tap_sums.proofs.pairs.add_parts.Goals as goal

pub add_pairs-requires : goal.add_pairs-requires
add_pairs-requires c = rw (four_back c.args.high c.requires.high.sums_fit, halves_back c.args.x c.requires.high.are_halves, halves_back c.args.high_weights c.requires.high.weights_fit) c.requires.high

pub add_pairs-requires-2 : goal.add_pairs-requires-2
add_pairs-requires-2 c = rw (four_back c.args.low c.requires.low.sums_fit, halves_back c.args.x c.requires.low.are_halves, halves_back c.args.low_weights c.requires.low.weights_fit) c.requires.low

pub returns-clause-high : goal.returns-clause-high
returns-clause-high c =
    let added = rw (four_back c.args.high c.requires.high.sums_fit, halves_back c.args.x c.requires.high.are_halves, halves_back c.args.high_weights c.requires.high.weights_fit) at c.add_pairs.ensures in
    rw (four_back c.add_pairs.result added.fit) added

pub returns-clause-low : goal.returns-clause-low
returns-clause-low c =
    let added = rw (four_back c.args.low c.requires.low.sums_fit, halves_back c.args.x c.requires.low.are_halves, halves_back c.args.low_weights c.requires.low.weights_fit) at c.add_pairs-2.ensures in
    rw (four_back c.add_pairs-2.result added.fit) added
