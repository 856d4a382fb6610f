use Rattle.std.proofs.Common.{pos, slice_index_or, ◌^◌}
use Rattle.fx_tap_sums.proofs.PairLanes.{AreFloors, IsStep, carry-bound, carry-value, floors, floors-mul_asked, four_back, rest-at, rest-below, rest-fit, rest_are, rest_asked, step-is, step-of}
use Rattle.fx_tap_sums.proofs.pairs.carry.Goals.{After-carried-carried}
use Rattle.fx_tap_sums.proofs.pairs.carry.Goals as goal

step : (c : After-carried-carried) → IsStep (2 ^ c.args.split)
step c = step-of c.args.split c.requires.split

-- the lanes that are carried, of the low ones
are : (c : After-carried-carried) → AreFloors (2 ^ c.args.split) c.args.low c.carried-carried.result
are c = floors (2 ^ c.args.split) c.args.low c.carried-carried.result c.requires.low.four c.carried-carried.ensures.fits.four (rw (four_back c.args.low c.requires.low) at c.carried-carried.ensures.floor)

pub carried-carried-requires-clause-low : goal.carried-carried-requires-clause-low
carried-carried-requires-clause-low c = rw (four_back c.args.low c.requires.low) c.requires.low

pub overflow_mul-rest : goal.overflow_mul-rest
overflow_mul-rest c =
    let s = (goal.at.overflow_mul-rest c).After-carried-carried in
    let fit = c.carried-carried.ensures.fits in
    rw (step-is c.args.split c.requires.split) (floors-mul_asked _ (step s) c.args.low c.carried-carried.result c.requires.low.fits fit.fits (are s) c.requires.low.four fit.four)

pub overflow_sub-rest : goal.overflow_sub-rest
overflow_sub-rest c =
    let s = (goal.at.overflow_sub-rest c).After-carried-carried in
    let fit = c.carried-carried.ensures.fits in
    rw (step-is c.args.split c.requires.split) (rest_asked _ (step s) c.args.low c.carried-carried.result c.requires.low.fits fit.fits (are s) c.requires.low.four fit.four)

pub add_lanes-requires-clause-x : goal.add_lanes-requires-clause-x
add_lanes-requires-clause-x c = rw (four_back c.args.high c.requires.high) c.requires.high

pub add_lanes-requires-clause-y : goal.add_lanes-requires-clause-y
add_lanes-requires-clause-y c = rw (four_back c.carried-carried.result c.carried-carried.ensures.fits) c.carried-carried.ensures.fits

pub add_lanes-requires-clause-fits : goal.add_lanes-requires-clause-fits
add_lanes-requires-clause-fits c = λ k l.
    let is = rw (four_back c.args.low c.requires.low) at (c.carried-carried.ensures.floor k l) in
    rw (four_back c.args.high c.requires.high, four_back c.carried-carried.result c.carried-carried.ensures.fits)
    (carry-bound (2 ^ c.args.split) (step-of c.args.split c.requires.split) (slice_index_or c.args.high k (pos 0)) (slice_index_or c.args.low k (pos 0)) (slice_index_or c.carried-carried.result k (pos 0)) is (c.requires.small k l))

pub returns : goal.returns
returns c =
    let s = (goal.at.returns c).After-carried-carried in
    let n = 2 ^ c.args.split in
    let low = c.args.low in
    let q = c.carried-carried.result in
    let fit = c.carried-carried.ensures.fits in
    let rest = rest_are n (step s) low q c.requires.low.fits fit.fits (are s) c.requires.low.four fit.four in
    rw (step-is c.args.split c.requires.split, four_back c.add_lanes.result c.add_lanes.ensures.fits, rest)
    record {
      high = c.add_lanes.ensures.fits;
      low = rest-fit n (step s) low q (are s) c.requires.low.four fit.four;
      value = λ k l. rw (rw (four_back c.args.high c.requires.high, four_back q fit) at (c.add_lanes.ensures.value k l), rest-at n low q k c.requires.low.four fit.four l)
          (carry-value n (slice_index_or c.args.high k (pos 0)) (slice_index_or low k (pos 0)) (slice_index_or q k (pos 0)));
      below = λ k l. rw (rest-at n low q k c.requires.low.four fit.four l) (rest-below n (step s) (slice_index_or low k (pos 0)) (slice_index_or q k (pos 0)) (rw (four_back low c.requires.low) at (c.carried-carried.ensures.floor k l)));
    }
