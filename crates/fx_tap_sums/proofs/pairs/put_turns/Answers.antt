use Rattle.std.proofs.Common.{◌^◌, arith}
use Rattle.fx_tap_sums.proofs.PairLanes.{PutTwo, each_of_four, put-first, put-second, put-two}
use Rattle.fx_tap_sums.proofs.ProductLanes.{wide-within, wide_back}
use Rattle.fx_tap_sums.proofs.pairs.put_turns.Goals.{After-put_lanes-2}
use Rattle.fx_tap_sums.proofs.pairs.put_turns.Goals as goal

pub interleave-requires-clause-even : goal.interleave-requires-clause-even
interleave-requires-clause-even c = wide-within (2 ^ 61) c.args.even (omega arith) c.requires.even

pub interleave-requires-clause-odd : goal.interleave-requires-clause-odd
interleave-requires-clause-odd c = wide-within (2 ^ 61) c.args.odd (omega arith) c.requires.odd

pub put_lanes-requires-clause-lanes : goal.put_lanes-requires-clause-lanes
put_lanes-requires-clause-lanes c = wide-within (2 ^ 61) c.interleave.result.0 (omega arith) c.interleave.ensures.low

pub put_lanes-requires-2-clause-lanes : goal.put_lanes-requires-2-clause-lanes
put_lanes-requires-2-clause-lanes c = wide-within (2 ^ 61) c.interleave.result.1 (omega arith) c.interleave.ensures.high

-- both vectors stand one after the other
put : (c : After-put_lanes-2) → PutTwo c.put_lanes-2.new.sums c.interleave.result.0 c.interleave.result.1 c.args.at
put c =
    let low = c.interleave.result.0 in
    let high = c.interleave.result.1 in
    put-two c.put_lanes-2.new.sums c.put_lanes.new.sums low high c.args.at c.put_lanes-2.ensures.before
    (rw (wide_back (2 ^ 61) low (omega arith) c.interleave.ensures.low) at c.put_lanes.ensures.put) (rw (wide_back (2 ^ 61) high (omega arith) c.interleave.ensures.high) at c.put_lanes-2.ensures.put)

pub returns-clause-even : goal.returns-clause-even
returns-clause-even c =
    let p = put (goal.at.returns-clause-even c).After-put_lanes-2 in
    let even_back = wide_back (2 ^ 61) c.args.even (omega arith) c.requires.even in
    let first = rw even_back at c.interleave.ensures.first in
    let third = rw even_back at c.interleave.ensures.third in
    each_of_four _
    (put-first _ _ _ c.args.at _ 0 _ p (omega arith) (omega arith) (first 0 (omega arith)))
    (put-first _ _ _ c.args.at _ 2 _ p (omega arith) (omega arith) (first 1 (omega arith)))
    (put-second _ _ _ c.args.at _ 0 _ p (omega arith) (omega arith) (third 0 (omega arith)))
    (put-second _ _ _ c.args.at _ 2 _ p (omega arith) (omega arith) (third 1 (omega arith)))

pub returns-clause-odd : goal.returns-clause-odd
returns-clause-odd c =
    let p = put (goal.at.returns-clause-odd c).After-put_lanes-2 in
    let odd_back = wide_back (2 ^ 61) c.args.odd (omega arith) c.requires.odd in
    let second = rw odd_back at c.interleave.ensures.second in
    let fourth = rw odd_back at c.interleave.ensures.fourth in
    each_of_four _
    (put-first _ _ _ c.args.at _ 1 _ p (omega arith) (omega arith) (second 0 (omega arith)))
    (put-first _ _ _ c.args.at _ 3 _ p (omega arith) (omega arith) (second 1 (omega arith)))
    (put-second _ _ _ c.args.at _ 1 _ p (omega arith) (omega arith) (fourth 0 (omega arith)))
    (put-second _ _ _ c.args.at _ 3 _ p (omega arith) (omega arith) (fourth 1 (omega arith)))
