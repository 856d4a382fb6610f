use Rattle.std.proofs.Common.{◌≡◌, ◌+◌, ◌≤◌, drop, count_by, nat_le}
use Rattle.fx_fixed.specs.Positions.{places_after}
use Rattle.fx_cut.proofs.trim.is_kept.Given as goal

abbrev pub invariant-positions : goal.invariant-positions
invariant-positions l = record {
  counted : l.crossed + count_by (λ q. nat_le q l.place) (places_after l.frames l.last (drop l.at-index l.positions)) ≡ count_by (λ q. nat_le q l.place) (places_after l.frames 0 l.positions);
  bound : l.crossed ≤ l.at-index;
}
