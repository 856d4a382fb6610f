-- A stage that was fed in two calls, the second after the first, was fed as in one.
use Rattle.std.proofs.Common.{◌≡◌, ◌+◌, ◌*◌, ◌≤◌, ℕ, List, ◌++◌, length, take, drop, sym, arith, length-append, ℤ}
use Rattle.std.proofs.lemmas.List.{drop_at, length-take-le, take_at}
use Rattle.fx_frame_base.specs.Feed.{Fed}
use Rattle.fx_frame_base.specs.Lists.{pieces}
use Rattle.fx_frame_base.specs.Stage.{Acts}
use Rattle.fx_frame_base.proofs.FedLaws.{Fed-then}
use Rattle.fx_frame_base.proofs.Puts.{pieces-same, pieces-split}

module _ {S R : Type 0} (acts : Acts S R) where
  -- the second call wrote over what lay after the frames of the first
  pub Fed-rest_unchanged : (ins outs n m k j : ℕ) (input mid rest_unchanged new : List ℤ) (first s t : S) → k * outs ≤ length mid → new ≡ take (k * outs) mid ++ rest_unchanged
      → Fed acts first (pieces ins n input) (pieces outs k mid) s → Fed acts s (pieces ins m (drop (n * ins) input)) (pieces outs j rest_unchanged) t
      → Fed acts first (pieces ins (n + m) input) (pieces outs (k + j) new) t
  Fed-rest_unchanged ins outs n m k j input mid rest_unchanged new first s t long written one two =
      let front : length (take (k * outs) mid) ≡ k * outs = length-take-le (k * outs) mid long in
      let all : k * outs ≤ length new = rw written (omega (arith, front, length-append (take (k * outs) mid) rest_unchanged)) in
      let kept : take (k * outs) mid ≡ take (k * outs) new = rw written (sym (take_at (take (k * outs) mid) rest_unchanged (k * outs) front)) in
      let same : pieces outs k mid ≡ pieces outs k new = pieces-same outs k mid new long all kept in
      let rest : rest_unchanged ≡ drop (k * outs) new = rw written (sym (drop_at (take (k * outs) mid) rest_unchanged (k * outs) front)) in
      let whole = Fed-then acts first s t _ _ _ _ one two in
      rw (pieces-split ins n m input, pieces-split outs k j new, ← same, ← rest) whole
