use Rattle.std.proofs.Common.{refl}
use Rattle.fx_tap_sums.proofs.Vectors.{lane_of_both, splat_at}
use Rattle.fx_tap_sums.proofs.transforms.vectors.times_number.Goals as goal

pub returns-clause-value : goal.returns-clause-value
returns-clause-value c = λ k l. rw (lane_of_both _ c.args.x _ k c.requires.x refl l, splat_at c.args.number k l) refl
