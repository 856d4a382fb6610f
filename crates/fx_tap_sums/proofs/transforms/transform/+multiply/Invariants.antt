use Rattle.fx_tap_sums.proofs.transforms.transform.+multiply.Given as goal

abbrev pub decreases-multiply : goal.decreases-multiply
decreases-multiply g l = l.levels
