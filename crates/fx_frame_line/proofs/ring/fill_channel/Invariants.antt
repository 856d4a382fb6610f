use Rattle.std.proofs.Common.{◌≡◌, ◌+◌, ◌*◌, ◌<◌, ℕ, get_or}
use Rattle.fx_frame_base.specs.Lists.{IsOtherPlace}
use Rattle.fx_frame_line.proofs.ring.fill_channel.Given as goal

abbrev pub invariant-loop-k : goal.invariant-loop-k
invariant-loop-k g l = record {
  put : (k : ℕ) → k < l.k → (d : g.row.T.Denot) → get_or l.out (k * l.apart + l.at) d ≡ l.sample;
  others : (k : ℕ) → IsOtherPlace l.apart l.at l.count k → (d : g.row.T.Denot) → get_or l.out k d ≡ get_or l.fn.out k d;
}
