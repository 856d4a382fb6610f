use Rattle.std.proofs.Common.{◌≡◌, ◌<◌, ◌≤◌, ◌-◌, ℕ, ℤ, pos, ◌*ℤ◌, length, slice_index_or}
use Rattle.fx_tap_sums.specs.Joined.{HasBothAt}
use Rattle.fx_tap_sums.proofs.transforms.joining.join_all.Given as goal

abbrev pub invariant-groups : goal.invariant-groups
invariant-groups l = record {
  place : l.at ≤ length l.sums;
  done : (i : ℕ) → i < l.at → (x : ℤ) → HasBothAt l.first l.second i x → slice_index_or l.sums i (pos 0) ≡ pos 256 *ℤ x;
}

abbrev pub decreases-groups : goal.decreases-groups
decreases-groups l = length l.sums - l.at

abbrev pub invariant-rest : goal.invariant-rest
invariant-rest l = (i : ℕ) → i < l.place → (x : ℤ) → HasBothAt l.first l.second i x → slice_index_or l.sums i (pos 0) ≡ pos 256 *ℤ x
