use Rattle.fx_tap_sums.proofs.transforms.transform.+forward.Given as goal

abbrev pub decreases-forward : goal.decreases-forward
decreases-forward g l = l.levels
