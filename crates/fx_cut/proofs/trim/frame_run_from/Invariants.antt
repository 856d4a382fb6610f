use Rattle.std.proofs.Common.{ℕ, ◌≡◌, ◌+◌, ◌≤◌, drop, count_by, nat_le}
use Rattle.fx_fixed.specs.Positions.{places_after}
use Rattle.fx_cut.specs.Trim.{starts}
use Rattle.fx_cut.proofs.trim.frame_run_from.Given as goal

abbrev pub invariant-positions : goal.invariant-positions
invariant-positions l = record {
  counted : (n : ℕ) → l.place ≤ n → l.crossed + count_by (λ q. nat_le q n) (places_after 0 l.last (starts (drop l.at-index l.positions))) ≡ count_by (λ q. nat_le q n) (places_after 0 0 (starts l.positions));
  early : l.last ≤ l.place;
  bound : l.crossed ≤ l.at-index;
}
