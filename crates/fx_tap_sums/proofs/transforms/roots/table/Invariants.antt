use Rattle.std.proofs.Common.{◌≡◌, ◌+◌, ◌*◌, ◌^◌, length, get_or}
use Rattle.fx_tap_sums.proofs.Doubling.{IsFront, IsStep}
use Rattle.fx_tap_sums.proofs.transforms.roots.table.Given as goal

abbrev pub invariant-steps : goal.invariant-steps
invariant-steps g l = record {
  front : IsFront g.row.P l.roots.items l.inverses.items;
  long : length l.roots.items ≡ 2 * 2 ^ l.at;
  last : IsStep g.row.P (2 ^ l.at) (get_or l.fn.steps l.at 0) (2 ^ l.at) l.roots.items;
}

abbrev pub invariant-places : goal.invariant-places
invariant-places g l = record {
  front : IsFront g.row.P l.roots.items l.inverses.items;
  half : l.half ≡ 2 * 2 ^ l.at;
  long : length l.roots.items ≡ l.half + l.place;
  last : IsStep g.row.P (2 ^ l.at) (get_or l.fn.steps l.at 0) (2 ^ l.at) l.roots.items;
  next : IsStep g.row.P l.half (get_or l.fn.steps (l.at + 1) 0) l.place l.roots.items;
}
