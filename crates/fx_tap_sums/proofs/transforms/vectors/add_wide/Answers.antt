use Rattle.fx_tap_sums.proofs.Vectors.{both_lanes, four_of_both}
use Rattle.fx_tap_sums.proofs.transforms.vectors.add_wide.Goals as goal

pub overflow_add-result : goal.overflow_add-result
overflow_add-result c = both_lanes _ c.args.x c.args.y c.requires.x c.requires.y (λ k l. record { fits = c.requires.fits k l })

pub returns-clause-four : goal.returns-clause-four
returns-clause-four c = four_of_both _ c.args.x c.args.y c.requires.x c.requires.y
