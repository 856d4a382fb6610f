use Rattle.std.proofs.Common.{refl}
use Rattle.fx_tap_sums.proofs.Vectors.{four_of_both, lane_of_both, splat_at}
use Rattle.fx_tap_sums.proofs.transforms.vectors.upper_bits.Goals as goal

pub returns-clause-four : goal.returns-clause-four
returns-clause-four g c = four_of_both _ c.args.numbers _ c.requires.four refl

pub returns-clause-value : goal.returns-clause-value
returns-clause-value g c = λ k l. rw (lane_of_both _ c.args.numbers _ k c.requires.four refl l, splat_at g.row.BITS k l) refl
