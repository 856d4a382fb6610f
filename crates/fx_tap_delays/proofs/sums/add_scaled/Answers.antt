use Rattle.std.proofs.Common.{arith, ◌≤◌, ◌^◌, pos, unsigned_abs, slice_index_or}
use Rattle.fx_frame_base.specs.Frame.{padded_frame}
use Rattle.fx_tap_delays.proofs.EchosSeries.{small-frame}
use Rattle.fx_frame_base.proofs.ListPlaces.{zeros-rest}
use Rattle.fx_tap_sums.proofs.SumLaws.{bound-more}
use Rattle.fx_tap_delays.proofs.sums.add_scaled.Goals as goal

pub returns-clause-bound : goal.returns-clause-bound
returns-clause-bound c k =
    let small : unsigned_abs (slice_index_or (padded_frame c.args.frame) k (pos 0)) ≤ 2 ^ 31 = rw (zeros-rest c.args.frame _ k) (small-frame c.args.frame c.places.ensures.frame.fits k) in
    let all : unsigned_abs (slice_index_or c.places.result k (pos 0)) ≤ 2 ^ 31 = rw c.places.ensures.places small in
    bound-more _ _ c.args.gain (slice_index_or c.places.result k (pos 0)) c.args.channels k c.requires.gain all (c.add_places.ensures.added k) (c.add_places.ensures.left k)

pub add_places-requires-clause-small : goal.add_places-requires-clause-small
add_places-requires-clause-small c k =
    let small : unsigned_abs (slice_index_or (padded_frame c.args.frame) k (pos 0)) ≤ 2 ^ 31 = rw (zeros-rest c.args.frame _ k) (small-frame c.args.frame c.places.ensures.frame.fits k) in
    let all : unsigned_abs (slice_index_or c.places.result k (pos 0)) ≤ 2 ^ 31 = rw c.places.ensures.places small in
    omega (arith, all)

pub returns-clause-added : goal.returns-clause-added
returns-clause-added c k l = rw (c.places.ensures.places, zeros-rest c.args.frame _ k) at (c.add_places.ensures.added k l)
