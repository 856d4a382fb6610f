use Rattle.std.proofs.Common.{◌+◌, ◌*◌, ◌<◌, ℕ, ℤ, List, pos, ◌∷◌, get_or}
use Rattle.fx_tap_sums.specs.Residues.{Same}
use Rattle.fx_tap_sums.specs.Upper.{AreUpper}
use Rattle.fx_tap_sums.proofs.transforms.loading.load_upper.Given as goal

abbrev pub invariant-samples : goal.invariant-samples
invariant-samples g l = record {
  remainders : (i : ℕ) → i < l.place + 1 → get_or l.values i 0 < 2 * g.row.P;
  same : (upper : List ℤ) → AreUpper l.window upper → (i : ℕ) → i < l.place + 1 → Same (pos g.row.P) (pos (get_or l.values i 0)) (get_or (pos 0 ∷ upper) i (pos 0));
}

abbrev pub invariant-rest : goal.invariant-rest
invariant-rest g l = record {
  remainders : (i : ℕ) → i < l.place → get_or l.values i 0 < 2 * g.row.P;
  same : (upper : List ℤ) → AreUpper l.window upper → (i : ℕ) → i < l.place → Same (pos g.row.P) (pos (get_or l.values i 0)) (get_or (pos 0 ∷ upper) i (pos 0));
}
